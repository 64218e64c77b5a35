use Rattle.std.proofs.Common.{◌≡◌, ◌++◌, filter_map, take}
use Rattle.wm_observe.specs.Notes.{note_of}
use Rattle.wm_observe.proofs.noting.note_each.Given as goal

-- what is told of the pairs so far stands at the end
abbrev pub invariant-loop-pair : goal.invariant-loop-pair
invariant-loop-pair l = l.told ≡ l.fn.told ++ filter_map (note_of l.query l.observer) (take l.pair-index l.pairs)
