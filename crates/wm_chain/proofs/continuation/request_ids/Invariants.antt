use Rattle.std.proofs.Common.{◌≡◌, take}
use Rattle.wm_chain.specs.Layers.{request_ids}
use Rattle.wm_chain.proofs.continuation.request_ids.Given as goal

-- the ids of the requests so far
abbrev pub invariant-loop-request : goal.invariant-loop-request
invariant-loop-request l = l.ids.items ≡ request_ids (take l.request-index l.layer)
