use Rattle.std.proofs.Common.{◌≡◌, filter, take}
use Rattle.wm_commands.specs.Cleared.{is_removable_then}
use Rattle.wm_unique.specs.Plans.{numbered_passes}
use Rattle.wm_commands.proofs.clearing.removed_by.Given as goal

-- those of the numbers so far that are removed are there
abbrev pub invariant-loop-number : goal.invariant-loop-number
invariant-loop-number l =
    l.numbers ≡ filter (numbered_passes (is_removable_then l.cancelled l.view.works) l.view.works) (take l.number-index l.let_go)
