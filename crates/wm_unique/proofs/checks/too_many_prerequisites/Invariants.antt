use Rattle.std.proofs.Common.{◌≡◌, drop}
use Rattle.wm_machine.specs.Enqueued.{too_many_after}
use Rattle.wm_unique.proofs.checks.too_many_prerequisites.Given as goal

-- the works so far have few prerequisites
abbrev pub invariant-loop-work : goal.invariant-loop-work
invariant-loop-work l = too_many_after l.after (drop l.work-index l.batch) ≡ too_many_after l.after l.batch
