use Rattle.std.proofs.Common.{◌≡◌, map, take}
use Rattle.command_tests.proofs.WaitingStates.{lone_node}
use Rattle.command_tests.proofs.commands.graph_of.Given as goal

-- the nodes of the works so far are there
abbrev pub invariant-loop-work : goal.invariant-loop-work
invariant-loop-work l = l.graph ≡ map lone_node (take l.work-index l.works)
