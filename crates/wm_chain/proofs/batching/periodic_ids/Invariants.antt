use Rattle.std.proofs.Common.{◌≡◌, take}
use Rattle.wm_request.specs.Batches.{periodic_ids}
use Rattle.wm_chain.proofs.batching.periodic_ids.Given as goal

-- the ids of the periodic works so far
abbrev pub invariant-loop-work : goal.invariant-loop-work
invariant-loop-work l = l.ids.items ≡ periodic_ids (take l.work-index l.works)
