use Rattle.std.proofs.Common.{◌≡◌, take}
use Rattle.wm_machine.specs.Group.{members_of, numbers_in}
use Rattle.wm_replay.proofs.naming.numbers_of_name.Given as goal

-- the numbers of those so far that have the name are there
abbrev pub invariant-loop-work : goal.invariant-loop-work
invariant-loop-work l = l.numbers ≡ numbers_in (members_of (take l.work-index l.works) l.name)
