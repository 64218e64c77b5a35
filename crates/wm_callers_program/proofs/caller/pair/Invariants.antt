use Rattle.std.proofs.Common.{◌≡◌, ◌+◌, ◌++◌, ◌≤◌, List, length, map, reverse}
use Rattle.std.specs.Prelude.{vec_capacity}
use Rattle.std.specs.List.{AllByRecursion}
use Rattle.wm_callers.specs.Closing.{fresh_passes}
use Rattle.wm_callers_program.specs.Lines.{dealt, lines_for, numbers_from, AskedLine}
use Rattle.wm_callers_program.specs.Serving.{IsFresh, IsReady}
use Rattle.wm_callers_program.proofs.caller.pair.Given as goal

-- the passes and lots that are left are those of the first numbers, and the others are paired
abbrev pub invariant-loop-pass : goal.invariant-loop-pass
invariant-loop-pass g l = record {
  passes : l.passes.items ≡ fresh_passes (length l.passes.items);
  counted : length l.passes.items ≡ length l.lots.items;
  fits : length l.passes.items + length l.paired.items ≡ l.callers;
  room : l.callers ≤ vec_capacity l.paired;
  numbers : numbers_from 0 (length l.passes.items) ++ reverse (map (λ caller. caller.pass.number) l.paired.items) ≡ numbers_from 0 l.callers;
  fresh : AllByRecursion IsFresh l.paired.items;
  ready : (lines : List AskedLine) → l.fn.lots.items ≡ dealt l.callers lines
      → (l.lots.items ≡ map (λ number. lines_for l.callers number lines) (numbers_from 0 (length l.passes.items)))
      × AllByRecursion (IsReady l.callers lines) l.paired.items;
}

abbrev pub decreases-loop-pass : goal.decreases-loop-pass
decreases-loop-pass g l = length l.passes.items
