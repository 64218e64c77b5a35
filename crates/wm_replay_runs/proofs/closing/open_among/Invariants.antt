use Rattle.std.proofs.Common.{◌≡◌, ◌&&◌, filter, take}
use Rattle.wm_collections.specs.Lists.{is_among}
use Rattle.wm_machine.specs.Closed.{is_open}
use Rattle.wm_machine.specs.Group.{numbers_in}
use Rattle.wm_replay_runs.proofs.closing.open_among.Given as goal

-- the numbers of those so far that are unfinished are there
abbrev pub invariant-loop-work : goal.invariant-loop-work
invariant-loop-work l =
    l.left ≡ numbers_in (filter (λ work. is_open work.phase && is_among l.numbers work.seq) (take l.work-index l.works))
