use Rattle.std.proofs.Common.{◌≡◌, filter, take}
use Rattle.wm_machine.specs.Ends.{is_freed}
use Rattle.wm_machine.specs.Group.{numbers_in}
use Rattle.wm_replay_runs.proofs.closing.freed.Given as goal

-- the numbers of those so far that are freed are there
abbrev pub invariant-loop-work : goal.invariant-loop-work
invariant-loop-work l = l.numbers ≡ numbers_in (filter (is_freed l.seq l.works) (take l.work-index l.works))
