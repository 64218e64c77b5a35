use Rattle.std.proofs.Common.{◌≡◌, ◌+◌, ◌++◌, drop}
use Rattle.wm_machine.specs.Enqueued.{new_numbers, placed_after}
use Rattle.wm_replay.proofs.placing.place_each.Given as goal

-- the works that are left are still to be placed, and their numbers come after those so far
abbrev pub invariant-loop-node : goal.invariant-loop-node
invariant-loop-node l = record {
  left : placed_after l.state l.name l.after (drop l.node-index l.nodes) ≡ placed_after l.fn.state l.name l.after l.nodes;
  numbered : l.numbers ++ new_numbers l.state.next (drop l.node-index l.nodes) ≡ new_numbers l.fn.state.next l.nodes;
  next : l.state.next ≡ l.fn.state.next + l.node-index;
}
