-- The promise of an export, fact by fact.
use Rattle.std.specs.Prelude.{◌≡◌, ◌≢◌, ℕ, List, []}
use Rattle.wm_audit.specs.Verdicts.{IsVerdict}
use Rattle.wm_audit.specs.declared.verdict.Verdict.TheVariants.{Sound}
use Rattle.wm_audit_program.specs.Sure.{faults_of, given_of}
use Rattle.wm_audit_program.specs.Written.{IsFrontWritten, Takes}
use Rattle.wm_audit_program.specs.declared.exporting.Exported.{Exported}
use Rattle.wm_audit_text.specs.Audits.{audit_text}
use Rattle.wm_bench.specs.declared.hand.Hand.{Hand}
use Rattle.wm_beginning.specs.Causes.{IsUnlessMemory}
use Rattle.wm_cli.specs.Run.{IsRun}
use Rattle.wm_beginning.specs.Reading.{Reads}
use Rattle.wm_faults.specs.Faults.{Failed}
use Rattle.wm_machine.specs.Replay.{Replay}
use Rattle.wm_machine.specs.Rows.{rows_of}
use Rattle.wm_machine.specs.declared.event.Event.{Event}
use Rattle.wm_machine.specs.declared.state.State.{State}
use Rattle.wm_ended.specs.Tells.{Tells}
use Rattle.wm_ended.specs.declared.ended.Ended.{Ended}
use Rattle.wm_ended.specs.declared.status.Status.{Status}
use Rattle.wm_ended.specs.declared.status.Status.TheVariants as status
use Rattle.wm_texts.specs.Texts.{log_text}

-- what is told where the sink is one in memory that never fails, and all else tells as it does
abbrev pub over_sure : {K W B : Type 0} → Tells K W B → Tells K (List ℕ) B
over_sure tells = record {
  store = tells.store;
  given = given_of;
  sink_faults = faults_of;
  kind_of = tells.kind_of;
  diary_of = tells.diary_of;
}

-- the audit of a run over such a sink: of the rows and the hands of its first state, its log, and what was written
abbrev pub audit_of : {K B : Type 0} → Ended K (List ℕ) B → List ℕ
audit_of ended = audit_text (rows_of ended.first) ended.first.instances ended.log ended.sink

-- how an export ends whose run is done
abbrev pub IsWrittenStatus : Status → Type 0
IsWrittenStatus status.Done = Unit {0}
IsWrittenStatus status.SinkFault = Unit {0}
IsWrittenStatus status.Memory = Unit {0}
IsWrittenStatus _ = ⊥

-- The audit of a run was written to a sink, of its first state, its log and what was written for it, and the export ended so: it is sound, where
-- the log replays and the text is its own; and the sink failed where that is answered.
pub record IsAuditWritten {W : Type 0} (sinks : Takes W) (first : State) (log : List Event) (text : List ℕ) (before now : W) (ended : Status) : Type 0 where
  pub status_is : IsWrittenStatus ended
  pub written : IsFrontWritten (sinks.given before) (sinks.given now) ended (audit_text (rows_of first) first.instances log text)
  pub sound : ended ≡ status.Done → (last : State) → Replay first log last → text ≡ log_text first log
      → IsVerdict (audit_text (rows_of first) first.instances log text) (Sound last)
  pub sink_fault : ended ≡ status.SinkFault → Failed (sinks.faults before) (sinks.faults now)

-- The promise of an export with these words and workers, whose source was and is as told, which was given this keeper and this sink, and ended so.
pub record IsExported {K W B S : Type 0} (tells : Tells K W B) (source : Reads S) (words : List (List ℕ)) (workers : List (Hand B)) (before now : S)
    (keeper : K) (sink : W) (exported : Exported K W B) : Type 0 where
  -- It is a run with these words, over a sink in memory that was given nothing before. That one never
  -- fails, so no run ends by it.
  pub run : IsRun (over_sure tells) source words workers before now keeper [] exported.ended
  pub no_sink_fault : exported.ended.status ≢ status.SinkFault
  -- Where the run isn't done, its status is that of the export, and the sink is as it was.
  pub not_done : exported.ended.status ≢ status.Done → exported.status ≡ exported.ended.status
  pub not_done_keeps : exported.ended.status ≢ status.Done → exported.sink ≡ sink
  -- Where it is done, its audit is written: a front of it, and on `Done` all. That is sound, with the
  -- last state of the run.
  pub done : exported.ended.status ≡ status.Done → IsWrittenStatus exported.status
  pub written : IsFrontWritten (tells.given sink) (tells.given exported.sink) exported.status (audit_of exported.ended)
  pub sound : exported.status ≡ status.Done → IsVerdict (audit_of exported.ended) (Sound exported.ended.last)
  -- The causes: `SinkFault` comes only where the sink failed. Memory alone is free.
  pub sink_fault : exported.status ≡ status.SinkFault → Failed (tells.sink_faults sink) (tells.sink_faults exported.sink)
  -- Completeness: a run that is done, and a sink without a fault.
  pub completes : exported.ended.status ≡ status.Done
      → ¬ Failed (tells.sink_faults sink) (tells.sink_faults exported.sink)
      → IsUnlessMemory exported.status status.Done
