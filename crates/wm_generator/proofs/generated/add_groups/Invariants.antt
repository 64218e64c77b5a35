-- The commands of the groups so far are there, and six numbers were drawn for each.
use Rattle.std.proofs.Common.{◌≡◌, ◌*◌, ◌++◌}
use Rattle.wm_generator.specs.Generated.{drawn_on, groups_of}
use Rattle.wm_generator.proofs.generated.add_groups.Given as goal

abbrev pub invariant-loop-group : goal.invariant-loop-group
invariant-loop-group l = record {
  commands : l.commands.items ≡ l.fn.commands.items ++ groups_of l.seed l.group;
  drawn : l.draws.number ≡ drawn_on l.seed (6 * l.group);
}
