use Rattle.std.proofs.Common.{◌≡◌, drop}
use Rattle.wm_steps.specs.Entries.{without_entries}
use Rattle.wm_steps.proofs.entries.drop_each.Given as goal

-- what is left makes of the entries so far what all makes of the entries
abbrev pub invariant-loop-number : goal.invariant-loop-number
invariant-loop-number l = without_entries (drop l.number-index l.numbers) l.index ≡ without_entries l.numbers l.fn.index
