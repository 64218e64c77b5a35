use Rattle.std.proofs.Common.{◌≡◌, take}
use Rattle.wm_machine.specs.Cancelled.{targeted}
use Rattle.wm_replay_commands.proofs.cancelling.targeted.Given as goal

-- the numbers of those so far that the target is for are there
abbrev pub invariant-loop-work : goal.invariant-loop-work
invariant-loop-work l = l.numbers ≡ targeted l.target (take l.work-index l.works)
