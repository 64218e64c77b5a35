use Rattle.std.proofs.Common.{◌≡◌, take}
use Rattle.wm_commands.specs.Cleared.{cleared_by}
use Rattle.wm_changes.specs.Replacements.{by_numbers}
use Rattle.wm_commands.proofs.clearing.replaced_among.Given as goal

-- the replacements of the numbers so far are there
abbrev pub invariant-loop-number : goal.invariant-loop-number
invariant-loop-number l = l.replaced ≡ by_numbers (cleared_by l.clearing) (take l.number-index l.numbers) l.view.works
