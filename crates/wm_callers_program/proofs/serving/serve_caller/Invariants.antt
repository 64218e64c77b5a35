use Rattle.std.proofs.Common.{◌≡◌, ◌++◌, None, length}
use Rattle.wm_callers_program.specs.Made.{lines_by}
use Rattle.wm_callers_program.specs.Serving.{HasOwnPlaces}
use Rattle.wm_callers_program.proofs.serving.serve_caller.Given as goal

-- what the caller made, and then the lines that are left, are what it had made and all its lines
abbrev pub invariant-loop-line : goal.invariant-loop-line
invariant-loop-line g l = record {
  number : l.caller.pass.number ≡ l.fn.caller.pass.number;
  own_places : HasOwnPlaces l.caller.pass;
  made : lines_by l.caller.pass ++ l.caller.lot ≡ lines_by l.fn.caller.pass ++ l.fn.caller.lot;
  going : l.caller.refused ≡ None;
}

abbrev pub decreases-loop-line : goal.decreases-loop-line
decreases-loop-line g l = length l.caller.lot
