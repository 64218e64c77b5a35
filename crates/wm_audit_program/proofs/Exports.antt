-- What an export asks of its run, and what it promises then.
use Rattle.std.proofs.Common.{◌≡◌, ℕ, List, [], Some, refl, sym, subst, ap, inl, inr, arith}
use Rattle.std.specs.List.{AllByRecursion}
use Rattle.wm_audit.specs.Exported.{IsOpened}
use Rattle.wm_audit_program.proofs.Canonical.{HaveCanonical-lines}
use Rattle.wm_audit_program.specs.Exported.{audit_of, over_sure, IsAuditWritten, IsExported, IsWrittenStatus}
use Rattle.wm_audit_program.specs.Written.{takes_of}
use Rattle.wm_audit_text.specs.Lines.{HasCanonical}
use Rattle.wm_beginning.specs.Causes.{IsUnlessMemory}
use Rattle.wm_beginning.specs.Over.{HasReplayed, IsReplayed}
use Rattle.wm_beginning.specs.Reading.{Reads}
use Rattle.wm_bench.specs.declared.hand.Hand.{Hand}
use Rattle.wm_cli.specs.Run.{IsRun}
use Rattle.wm_ended.specs.Tells.{Tells}
use Rattle.wm_ended.specs.declared.ended.Ended.{Ended}
use Rattle.wm_ended.specs.declared.status.Status.{Status}
use Rattle.wm_ended.specs.declared.status.Status.TheVariants as status
use Rattle.wm_faults.specs.Faults.{Failed}
use Rattle.wm_io.proofs.AppendedTexts.{IsAppended-nothing}
use Rattle.wm_keeper.specs.Store.{told_before}
use Rattle.wm_machine.specs.Opened.{Opened}
use Rattle.wm_seating.specs.Hands.{instances_from}
use Rattle.wm_texts.specs.Texts.{log_text}

-- ---- a run that is done

replayed : {K W B S : Type 0} (tells : Tells K W B) (source : Reads S) (words : List (List ℕ)) (workers : List (Hand B)) (before now : S) (keeper : K)
    (ended : Ended K (List ℕ) B) → IsRun (over_sure tells) source words workers before now keeper [] ended → ended.status ≡ status.Done
    → HasReplayed (told_before (tells.store keeper).rows (tells.store ended.keeper).rows) (instances_from tells.kind_of 0 workers) ended.first ended.log ended.last
replayed tells source words workers before now keeper ended run done =
    subst (λ began. IsReplayed (told_before (tells.store keeper).rows (tells.store ended.keeper).rows) (instances_from tells.kind_of 0 workers) began ended.first ended.log ended.last)
    (run.done done) run.replay

-- rows open to its first state, with the hands that this has
pub IsOpened-done : {K W B S : Type 0} (tells : Tells K W B) (source : Reads S) (words : List (List ℕ)) (workers : List (Hand B)) (before now : S) (keeper : K)
    (ended : Ended K (List ℕ) B) → IsRun (over_sure tells) source words workers before now keeper [] ended → ended.status ≡ status.Done → IsOpened ended.first
IsOpened-done tells source words workers before now keeper ended run done =
    let opened = (replayed tells source words workers before now keeper ended run done).opened in
    record {
      rows = opened.rows;
      opened = subst (λ hands. Opened opened.rows hands ended.first) (sym (ap (λ s. s.instances) opened.opened.state)) opened.opened;
    }

-- the commands of its log are canonical
pub HaveCanonical-done : {K W B S : Type 0} (tells : Tells K W B) (source : Reads S) (words : List (List ℕ)) (workers : List (Hand B)) (before now : S) (keeper : K)
    (ended : Ended K (List ℕ) B) → IsRun (over_sure tells) source words workers before now keeper [] ended → ended.status ≡ status.Done
    → AllByRecursion HasCanonical ended.log
HaveCanonical-done tells source words workers before now keeper ended run done =
    HaveCanonical-lines words run.script.bytes ended.log (run.script.holds.commands.all done)

-- what was written for it is the text of its log
text-done : {K W B S : Type 0} (tells : Tells K W B) (source : Reads S) (words : List (List ℕ)) (workers : List (Hand B)) (before now : S) (keeper : K)
    (ended : Ended K (List ℕ) B) → IsRun (over_sure tells) source words workers before now keeper [] ended → ended.status ≡ status.Done
    → ended.sink ≡ log_text ended.first ended.log
text-done tells source words workers before now keeper ended run done =
    let all : Some ended.sink ≡ Some (log_text ended.first ended.log) = run.bytes.all done in
    cc

-- ---- the promise

-- a sink that meets no fault isn't why a run ends
never_failed : Failed 0 0 → ⊥
never_failed failed = let rose = failed.rose in omega arith

pub IsExported-undone : {K W B S : Type 0} (tells : Tells K W B) (source : Reads S) (words : List (List ℕ)) (workers : List (Hand B)) (before now : S) (keeper : K)
    (sink : W) (ended : Ended K (List ℕ) B) → IsRun (over_sure tells) source words workers before now keeper [] ended → (ended.status ≡ status.Done → ⊥)
    → IsExported tells source words workers before now keeper sink (record { ended = ended; status = ended.status; sink = sink })
IsExported-undone tells source words workers before now keeper sink ended run undone = record {
  run = run;
  no_sink_fault = λ is. never_failed (run.sink_fault is);
  not_done = λ is. refl;
  not_done_keeps = λ is. refl;
  done = λ is. absurd (undone is);
  written = record {
    front = record { front = []; is_front = (audit_of ended, refl); given = IsAppended-nothing (tells.given sink) };
    all = λ is. absurd (undone is);
  };
  sound = λ is. absurd (undone is);
  sink_fault = λ is. absurd (never_failed (run.sink_fault is));
  completes = λ is none. absurd (undone is);
}

-- the sink failed, or the audit was written, but for memory
completed : (ended : Status) (before now : ℕ) → IsWrittenStatus ended → (ended ≡ status.SinkFault → Failed before now) → ¬ Failed before now
    → IsUnlessMemory ended status.Done
completed status.Done before now is fault none = inl refl
completed status.SinkFault before now is fault none = absurd (none (fault refl))
completed status.Memory before now is fault none = inr refl
completed status.Usage before now is fault none = absurd is
completed status.SourceFault before now is fault none = absurd is
completed (status.ScriptTooLong limit) before now is fault none = absurd is
completed status.KeeperFault before now is fault none = absurd is
completed (status.BadStore seq bad_row) before now is fault none = absurd is

pub IsExported-done : {K W B S : Type 0} (tells : Tells K W B) (source : Reads S) (words : List (List ℕ)) (workers : List (Hand B)) (before now : S) (keeper : K)
    (sink left : W) (ended : Ended K (List ℕ) B) (how : Status) → IsRun (over_sure tells) source words workers before now keeper [] ended → ended.status ≡ status.Done
    → IsAuditWritten (takes_of tells.given tells.sink_faults) ended.first ended.log ended.sink sink left how
    → IsExported tells source words workers before now keeper sink (record { ended = ended; status = how; sink = left })
IsExported-done tells source words workers before now keeper sink left ended how run done audit = record {
  run = run;
  no_sink_fault = λ is. never_failed (run.sink_fault is);
  not_done = λ undone. absurd (undone done);
  not_done_keeps = λ undone. absurd (undone done);
  done = λ is. audit.status_is;
  written = audit.written;
  sound = λ is.
      audit.sound is ended.last (replayed tells source words workers before now keeper ended run done).replay
      (text-done tells source words workers before now keeper ended run done);
  sink_fault = audit.sink_fault;
  completes = λ is none. completed how (tells.sink_faults sink) (tells.sink_faults left) audit.status_is audit.sink_fault none;
}
