use Rattle.std.proofs.Common.{◌≡◌, take}
use Rattle.wm_machine.specs.Cancelled.{targeted}
use Rattle.wm_machine.specs.declared.command.Target.TheVariants as target
use Rattle.wm_commands.proofs.cancel.all_open.Given as goal

-- the numbers of the unfinished works so far are there
abbrev pub invariant-loop-work : goal.invariant-loop-work
invariant-loop-work l = l.numbers ≡ targeted target.All (take l.work-index l.works)
