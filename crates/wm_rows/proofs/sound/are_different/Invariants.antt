use Rattle.std.proofs.Common.{◌≡◌, drop}
use Rattle.wm_rows.specs.Sound.{are_different}
use Rattle.wm_rows.proofs.sound.are_different.Given as goal

-- they differ where those from here on do
abbrev pub invariant-loop-index : goal.invariant-loop-index
invariant-loop-index l = are_different (drop l.index l.numbers) ≡ are_different l.numbers
