use Rattle.std.proofs.Common.{◌≡◌, [], map}
use Rattle.wm_callers_program.specs.Lines.{lines_for, numbers_from}
use Rattle.wm_callers_program.proofs.line.empty_lots.Given as goal

-- the lots so far are empty
abbrev pub invariant-loop-number : goal.invariant-loop-number
invariant-loop-number l = l.lots.items ≡ map (λ number. lines_for l.callers number []) (numbers_from 0 l._number)
