use Rattle.std.proofs.Common.{◌≡◌, ◌+◌, ◌++◌, List, length}
use Rattle.std.specs.List.{AllByRecursion}
use Rattle.wm_callers_program.specs.Lines.{dealt, lines_from, lines_of, AskedLine}
use Rattle.wm_machine.specs.Outcome.{IsAskable}
use Rattle.wm_callers_program.proofs.line.deal_onto.Given as goal

-- the lines so far are dealt, and these and those that are left are all
abbrev pub invariant-loop-command : goal.invariant-loop-command
invariant-loop-command l = record {
  so_far : List AskedLine;
  lots : l.lots ≡ dealt l.callers so_far;
  all : so_far ++ lines_from (l.index + 1) l.left.items ≡ lines_of l.fn.commands;
  counted : l.index + length l.left.items ≡ length l.fn.commands;
  askable : AllByRecursion IsAskable l.left.items;
}

abbrev pub decreases-loop-command : goal.decreases-loop-command
decreases-loop-command l = length l.left.items
