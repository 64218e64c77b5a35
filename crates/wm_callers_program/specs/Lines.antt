-- The lines that callers call, and to which caller each goes.
use Rattle.std.specs.Prelude.{ℕ, zero, suc, ◌+◌, ◌-◌, ◌%◌, ◌==◌, List, [], ◌∷◌, ◌++◌, map, filter}
use Rattle.wm_machine.specs.declared.command.Command.{Command}
use Rattle.wm_machine.specs.declared.command.Command.TheVariants as command
use Rattle.wm_machine.specs.declared.command.LineFault.TheVariants.{Bad}

-- a line: its number, from 1, and what it asks for
pub record AskedLine : Type 0 where
  pub number : ℕ
  pub command : Command

-- what a desk is asked for by a line: one that settles or observes counts as one that isn't in the grammar
abbrev pub for_desk : Command → Command
for_desk command.Settle = command.Faulty Bad
for_desk (command.Observe query) = command.Faulty Bad
for_desk asked = asked

-- the lines of these commands, of which the first has this number
abbrev pub lines_from : ℕ → List Command → List AskedLine
lines_from number [] = []
lines_from number (asked ∷ commands) = record { number = number; command = for_desk asked } ∷ lines_from (number + 1) commands

-- the lines of a script with these commands
abbrev pub lines_of : List Command → List AskedLine
lines_of commands = lines_from 1 commands

-- to which of so many callers a line goes
abbrev pub caller_of : ℕ → AskedLine → ℕ
caller_of callers line = (line.number - 1) % callers

-- those that go to one of them, in order
abbrev pub lines_for : ℕ → ℕ → List AskedLine → List AskedLine
lines_for callers number lines = filter (λ line. caller_of callers line == number) lines

-- so many numbers, from this one on
abbrev pub numbers_from : ℕ → ℕ → List ℕ
numbers_from first zero = []
numbers_from first (suc count) = first ∷ numbers_from (suc first) count

-- the lines of each caller, by the callers' numbers
abbrev pub dealt : ℕ → List AskedLine → List (List AskedLine)
dealt callers lines = map (λ number. lines_for callers number lines) (numbers_from 0 callers)

-- lots of lines, with one more in the lot at this place
abbrev pub with_line : ℕ → AskedLine → List (List AskedLine) → List (List AskedLine)
with_line place line [] = []
with_line zero line (lot ∷ lots) = (lot ++ line ∷ []) ∷ lots
with_line (suc place) line (lot ∷ lots) = lot ∷ with_line place line lots
