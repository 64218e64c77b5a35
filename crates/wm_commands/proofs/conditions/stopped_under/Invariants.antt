use Rattle.std.proofs.Common.{◌≡◌, take}
use Rattle.wm_commands.specs.PutBack.{stopped_under}
use Rattle.wm_commands.proofs.conditions.stopped_under.Given as goal

-- the numbers of those so far that are stopped are there
abbrev pub invariant-loop-run : goal.invariant-loop-run
invariant-loop-run l = l.numbers ≡ stopped_under l.conditions (take l.run-index l.runs)
