-- What the log of a table has of the lines that callers called.
use Rattle.std.specs.Prelude.{◌≡◌, ℕ, ◌<◌, ◌≤◌, List, [], ◌∷◌, ◌++◌, map, sum, Option, Some, None}
use Rattle.std.specs.List.{AllByRecursion}
use mathlib.Core.List.{IsPrefix}
use Rattle.wm_callers.specs.History.{IsOfDesk}
use Rattle.wm_callers.specs.PassState.{PassState}
use Rattle.wm_callers_program.specs.Lines.{caller_of, lines_for, AskedLine}
use Rattle.wm_callers_program.specs.Serving.{HasCalled, HasCalledAll}
use Rattle.wm_faults.specs.Faults.{Failed}
use Rattle.wm_machine.specs.declared.event.Event.{Event}
use Rattle.wm_machine.specs.declared.event.Event.TheVariants as event
use Rattle.wm_engine.specs.declared.trouble.Trouble.{Trouble}
use Rattle.wm_engine.specs.declared.trouble.Trouble.TheVariants.{KeeperFault, Memory}

-- ---- a log

abbrev pub line_at : Event → List AskedLine
line_at (event.Command line asked reply) = record { number = line; command = asked } ∷ []
line_at _ = []

-- the lines that a log answers, in order
abbrev pub lines_in : List Event → List AskedLine
lines_in [] = []
lines_in (e ∷ log) = line_at e ++ lines_in log

-- of these lines, which go to so many callers, the log answers a front of each caller's, in order and each once; and these are the callers
pub record AreCalled (callers : ℕ) (lines : List AskedLine) (numbers : List ℕ) (log : List Event) : Type 0 where
  pub numbers_are : numbers ≡ map (caller_of callers) (lines_in log)
  pub fronts : (number : ℕ) → number < callers → IsPrefix (lines_for callers number (lines_in log)) (lines_for callers number lines)

-- and it answers all of them, each once
abbrev pub AreAllCalled : ℕ → List AskedLine → List Event → Type 0
AreAllCalled callers lines log =
    (number : ℕ) → number < callers → lines_for callers number (lines_in log) ≡ lines_for callers number lines

-- ---- refusals

-- the one of two that counts: that of the keeper, where one is
abbrev pub worse : Option Trouble → Option Trouble → Option Trouble
worse (Some KeeperFault) other = Some KeeperFault
worse (Some Memory) (Some trouble) = Some trouble
worse (Some Memory) None = Some Memory
worse None other = other

-- what came of callers of these lines whose passes these are: this is why a call was refused, where one was
pub record HaveCalled (callers : ℕ) (lines : List AskedLine) (refused : Option Trouble) (passes : List PassState) : Type 0 where
  pub called : AllByRecursion (HasCalled callers lines) passes
  pub whole : refused ≡ None → AllByRecursion (HasCalledAll callers lines) passes
  pub fault : refused ≡ Some KeeperFault → 0 < sum (map (λ pass. pass.units) passes)

-- what came of a log that had no event before these lines were called, with the keeper's count of faults before and now
pub record IsCalledOut (callers : ℕ) (lines : List AskedLine) (refused : Option Trouble) (numbers : List ℕ) (log : List Event) (before now : ℕ) : Type 0 where
  pub calls : AreCalled callers lines numbers log
  pub whole : refused ≡ None → AreAllCalled callers lines log
  pub alone : AllByRecursion IsOfDesk log
  pub fault : refused ≡ Some KeeperFault → Failed before now
  pub later : before ≤ now
