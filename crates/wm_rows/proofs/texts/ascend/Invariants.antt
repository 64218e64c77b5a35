use Rattle.std.proofs.Common.{◌≡◌, ◌-◌, drop}
use Rattle.wm_rows.specs.Fields.{ascend}
use Rattle.wm_rows.proofs.texts.ascend.Given as goal

-- they ascend where those from here on do
abbrev pub invariant-loop-index : goal.invariant-loop-index
invariant-loop-index l = ascend (drop (l.index - 1) l.tags) ≡ ascend l.tags
