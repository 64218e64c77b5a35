use Rattle.std.proofs.Common.{◌≡◌, filter, take}
use Rattle.wm_machine.specs.Group.{numbers_in}
use Rattle.wm_machine.specs.Pruned.{prunable}
use Rattle.wm_replay_commands.proofs.pruning.prunable_numbers.Given as goal

-- the numbers of those so far that are removed are there
abbrev pub invariant-loop-work : goal.invariant-loop-work
invariant-loop-work l = l.numbers ≡ numbers_in (filter (prunable l.state l.force) (take l.work-index l.works))
