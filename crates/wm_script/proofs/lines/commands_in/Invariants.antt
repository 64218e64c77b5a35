-- The commands so far and those of the lines that are left are those of the script.
use Rattle.std.proofs.Common.{◌≡◌, ◌+◌, ◌++◌, ◌≤◌, length}
use Rattle.wm_script.specs.Lines.{commands_in}
use Rattle.wm_script.proofs.lines.commands_in.Given as goal

abbrev pub invariant-lines : goal.invariant-lines
invariant-lines l = record {
  commands : l.commands ++ commands_in l.rest ≡ commands_in l.bytes;
  few : length l.commands + length l.rest ≤ length l.bytes;
}

abbrev pub decreases-lines : goal.decreases-lines
decreases-lines l = length l.rest
