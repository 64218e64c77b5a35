use Rattle.std.proofs.Common.{◌≡◌, ◌+◌, take, sum_by}
use Rattle.wm_data.specs.Size.{text_size}
use Rattle.wm_data.proofs.size.texts_size.Given as goal

-- the texts so far
abbrev pub invariant-loop-text : goal.invariant-loop-text
invariant-loop-text l = l.size ≡ 4 + sum_by text_size (take l.text-index l.texts)
