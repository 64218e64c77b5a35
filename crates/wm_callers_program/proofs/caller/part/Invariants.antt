use Rattle.std.proofs.Common.{◌≡◌, ℕ, ◌+◌, ◌++◌, ◌≤◌, List, length, map, reverse}
use Rattle.std.specs.Prelude.{vec_capacity}
use Rattle.std.specs.List.{AllByRecursion}
use Rattle.wm_callers_program.specs.Calls.{HaveCalled}
use Rattle.wm_callers_program.specs.Lines.{AskedLine}
use Rattle.wm_callers_program.specs.Serving.{IsServed}
use Rattle.wm_callers_program.proofs.caller.part.Given as goal

-- the passes that are out and the callers that are left are all, and it is said of those that are out why a call was refused
abbrev pub invariant-loop-caller : goal.invariant-loop-caller
invariant-loop-caller g l = record {
  room : length l.passes.items + length l.callers.items ≤ vec_capacity l.passes;
  numbers : map (λ pass. pass.number) l.passes.items ++ reverse (map (λ caller. caller.pass.number) l.callers.items)
      ≡ reverse (map (λ caller. caller.pass.number) l.fn.callers.items);
  called : (count : ℕ) (lines : List AskedLine) → AllByRecursion (IsServed count lines) l.fn.callers.items
      → AllByRecursion (IsServed count lines) l.callers.items × HaveCalled count lines l.refused l.passes.items;
}

abbrev pub decreases-loop-caller : goal.decreases-loop-caller
decreases-loop-caller g l = goal.left-loop-caller g l
