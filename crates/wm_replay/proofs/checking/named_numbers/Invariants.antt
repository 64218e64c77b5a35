use Rattle.std.proofs.Common.{◌≡◌, filter, take}
use Rattle.wm_machine.specs.Group.{numbers_in}
use Rattle.wm_unique.specs.Plans.{is_named_by}
use Rattle.wm_replay.proofs.checking.named_numbers.Given as goal

-- the numbers of those so far that are named are there
abbrev pub invariant-loop-work : goal.invariant-loop-work
invariant-loop-work l = l.numbers ≡ numbers_in (filter (is_named_by l.nodes) (take l.work-index l.works))
