use Rattle.std.proofs.Common.{◌≡◌, drop}
use Rattle.wm_machine.specs.Enqueued.{periodic_in_chain}
use Rattle.wm_unique.specs.Plans.{grouped}
use Rattle.wm_unique.proofs.checks.periodic_in_chain.Given as goal

-- the works so far come after no periodic one
abbrev pub invariant-loop-work : goal.invariant-loop-work
invariant-loop-work l = periodic_in_chain (grouped l.works l.known) (drop l.work-index l.batch) ≡ periodic_in_chain (grouped l.works l.known) l.batch
