use Rattle.std.proofs.Common.{◌≡◌, ◌++◌, ℕ, List, drop}
use Rattle.wm_callers_program.specs.LogTexts.{plain_text}
use Rattle.wm_io.specs.Writing.{IsAppended}
use Rattle.wm_callers_program.proofs.texts.write_log.Given as goal

-- the texts so far were written, and these and those that are left are all
abbrev pub invariant-loop-event : goal.invariant-loop-event
invariant-loop-event g l = record {
  written : List ℕ;
  given : IsAppended (g.W.Sink.given l.fn.sink) (g.W.Sink.given l.sink) written;
  all : written ++ plain_text l.is_hushed (drop l.event-index l.log) ≡ plain_text l.fn.hushed l.log;
  faults : g.W.Sink.faults l.sink ≡ g.W.Sink.faults l.fn.sink;
}
