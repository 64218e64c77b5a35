use Rattle.std.proofs.Common.{◌≡◌, [], drop, take}
use Rattle.wm_machine.specs.Enqueued.{no_such_prerequisite, without}
use Rattle.wm_request.specs.Batches.{ids_of}
use Rattle.wm_unique.specs.Plans.{grouped}
use Rattle.wm_unique.proofs.checks.no_such_prerequisite.Given as goal

-- the first refusal from here on is the first
abbrev pub invariant-loop-index : goal.invariant-loop-index
invariant-loop-index l =
    no_such_prerequisite (without l.let_go (grouped l.works l.known)) (ids_of (take l.index l.batch)) (drop l.index l.batch)
    ≡ no_such_prerequisite (without l.let_go (grouped l.works l.known)) [] l.batch
