-- The lines so far and those of the events that are left are all, and each event so far is read again.
use Rattle.std.proofs.Common.{◌≡◌, ◌++◌, drop, take}
use Rattle.std.specs.List.{AllByRecursion}
use Rattle.wm_audit_text.specs.Audits.{event_lines}
use Rattle.wm_audit_text.specs.Lines.{IsToldCanonical}
use Rattle.wm_audit_text.proofs.audits.add_events.Given as goal

abbrev pub invariant-loop-event : goal.invariant-loop-event
invariant-loop-event l = record {
  lines : l.bytes.items ++ event_lines (drop l.event-index l.log) ≡ l.fn.bytes.items ++ event_lines l.log;
  told : AllByRecursion IsToldCanonical (take l.event-index l.log);
}
