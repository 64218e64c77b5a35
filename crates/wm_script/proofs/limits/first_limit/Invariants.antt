-- The lines that are left are within their limits where all are, and with those so far they are as many.
use Rattle.std.proofs.Common.{◌≡◌, ◌+◌, ◌≤◌, length}
use Rattle.std.specs.List.{list_any}
use Rattle.wm_script.specs.Limits.{is_long}
use Rattle.wm_script.specs.Lines.{cut}
use Rattle.wm_script.proofs.limits.first_limit.Given as goal

abbrev pub invariant-lines : goal.invariant-lines
invariant-lines l = record {
  long : list_any is_long (cut l.rest) ≡ list_any is_long (cut l.bytes);
  counted : l.lines + length (cut l.rest) ≡ length (cut l.bytes);
  within : l.lines + length l.rest ≤ length l.bytes;
}

abbrev pub decreases-lines : goal.decreases-lines
decreases-lines l = length l.rest
