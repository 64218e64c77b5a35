use Rattle.std.proofs.Common.{◌≡◌, ◌++◌, drop}
use Rattle.wm_runs.specs.Reached.{change_by, others}
use Rattle.wm_changes.specs.Replacements.{by_numbers}
use Rattle.wm_runs.proofs.reach.add_others.Given as goal

-- the replacements so far and those of the numbers that are left are all
abbrev pub invariant-loop-number : goal.invariant-loop-number
invariant-loop-number l =
    l.replaced ++ by_numbers (change_by l.itself l.reach) (others l.itself.seq (drop l.number-index l.numbers)) l.view.works
    ≡ l.fn.replaced ++ by_numbers (change_by l.itself l.reach) (others l.itself.seq l.numbers) l.view.works
