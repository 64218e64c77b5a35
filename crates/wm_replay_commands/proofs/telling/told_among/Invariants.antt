use Rattle.std.proofs.Common.{◌≡◌, filter, map, take}
use Rattle.wm_machine.specs.Queried.{matches}
use Rattle.wm_machine.specs.Shown.{info_of}
use Rattle.wm_replay_commands.proofs.telling.told_among.Given as goal

-- those of the works so far that match are told
abbrev pub invariant-loop-work : goal.invariant-loop-work
invariant-loop-work l = l.told ≡ filter (matches l.query) (map (info_of l.works) (take l.work-index l.works))
