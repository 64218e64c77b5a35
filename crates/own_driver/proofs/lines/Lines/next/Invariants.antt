use Rattle.std.proofs.Common.{◌-◌, length}
use Rattle.own_driver.proofs.lines.Lines.next.Given as goal

-- how many bytes the line may still have, and one more
abbrev pub decreases-pieces : goal.decreases-pieces
decreases-pieces g l = 1048577 - length l.line.items
