use Rattle.std.proofs.Common.{◌≡◌, take}
use Rattle.wm_unique.specs.Plans.{ids_named}
use Rattle.wm_unique.proofs.named.ids_named_by.Given as goal

-- the ids of those so far are there
abbrev pub invariant-loop-node : goal.invariant-loop-node
invariant-loop-node l = l.ids ≡ ids_named (take l.node-index l.nodes)
