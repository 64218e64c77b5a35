use Rattle.std.proofs.Common.{◌≡◌, take}
use Rattle.wm_collections.proofs.replica.ItemsReplica.replica.Given as goal

-- the copies so far are the elements so far
abbrev pub invariant-loop-element : goal.invariant-loop-element
invariant-loop-element g l = l.copies.items ≡ take l.element-index l.self
