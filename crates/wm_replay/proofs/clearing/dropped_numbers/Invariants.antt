use Rattle.std.proofs.Common.{◌≡◌, filter, take}
use Rattle.wm_machine.specs.Group.{is_dropped, numbers_in}
use Rattle.wm_replay.proofs.clearing.dropped_numbers.Given as goal

-- the numbers of those so far that are removed are there
abbrev pub invariant-loop-work : goal.invariant-loop-work
invariant-loop-work l = l.dropped ≡ numbers_in (filter (is_dropped l.numbers l.works) (take l.work-index l.works))
