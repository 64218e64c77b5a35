use Rattle.std.proofs.Common.{◌≡◌, take}
use Rattle.wm_seating.specs.Hands.{instances_from}
use Rattle.wm_beginning.proofs.instances.instances_of.Given as goal

-- the instances of the workers so far
abbrev pub invariant-loop-hand : goal.invariant-loop-hand
invariant-loop-hand g l = record {
  instances : l.instances ≡ instances_from g.B.Worker.kind_of 0 (take l.hand-index l.hands);
  number : l.number ≡ l.hand-index;
}
