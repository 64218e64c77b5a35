-- The asks so far and those of the lines that are left are those of the script.
use Rattle.std.proofs.Common.{◌≡◌, ◌+◌, ◌++◌, ◌≤◌, length}
use Rattle.wm_live_program.specs.Asks.{asks_in}
use Rattle.wm_live_program.proofs.asks.asks_in.Given as goal

abbrev pub invariant-lines : goal.invariant-lines
invariant-lines l = record {
  asks : l.asks.items ++ asks_in l.rest ≡ asks_in l.bytes;
  few : length l.asks.items + length l.rest ≤ length l.bytes;
}

abbrev pub decreases-lines : goal.decreases-lines
decreases-lines l = length l.rest
