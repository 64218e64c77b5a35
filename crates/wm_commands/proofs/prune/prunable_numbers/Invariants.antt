use Rattle.std.proofs.Common.{◌≡◌, filter, take}
use Rattle.wm_machine.specs.Group.{numbers_in}
use Rattle.wm_machine.specs.Pruned.{prunable}
use Rattle.wm_commands.proofs.prune.prunable_numbers.Given as goal

-- the numbers of the prunable works so far are there
abbrev pub invariant-loop-work : goal.invariant-loop-work
invariant-loop-work l = l.numbers ≡ numbers_in (filter (prunable l.view l.force) (take l.work-index l.works))
