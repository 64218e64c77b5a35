use Rattle.std.proofs.Common.{◌≡◌, ◌++◌, drop}
use Rattle.wm_commands.specs.PutBack.{put_back_by, put_back_where}
use Rattle.wm_changes.specs.Replacements.{replacements}
use Rattle.wm_commands.proofs.conditions.put_back_by.Given as goal

-- the replacements so far and those of the works that are left are all
abbrev pub invariant-loop-index : goal.invariant-loop-index
invariant-loop-index l =
    l.replaced ++ replacements (put_back_where l.conditions l.runs) l.index (drop l.index l.works) ≡ put_back_by l.conditions l.runs l.works
