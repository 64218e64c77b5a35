use Rattle.std.proofs.Common.{◌≡◌, drop, take}
use Rattle.wm_request.specs.Batches.{ids_of}
use Rattle.wm_chain.specs.Walk.{fault_from, fault_in}
use Rattle.wm_chain.proofs.batching.fault_in.Given as goal

-- the first fault from here on is the first fault
abbrev pub invariant-loop-index : goal.invariant-loop-index
invariant-loop-index l = fault_from l.periodic (ids_of (take l.index l.works)) (drop l.index l.works) ≡ fault_in l.works
