-- What becomes of a caller whose lines are called.
use Rattle.std.specs.Prelude.{◌≡◌, ℕ, ◌<◌, List, [], ◌∷◌, ◌++◌, Some, None}
use mathlib.Core.List.{IsPrefix}
use Rattle.wm_callers.specs.Closing.{fresh_pass}
use Rattle.wm_callers.specs.PassState.{PassState}
use Rattle.wm_callers.specs.Places.{places_of, ArePart}
use Rattle.wm_callers_program.specs.Lines.{lines_for, AskedLine}
use Rattle.wm_callers_program.specs.Made.{lines_by}
use Rattle.wm_callers_program.specs.declared.caller.Caller.{Caller}
use Rattle.wm_engine.specs.declared.trouble.Trouble.TheVariants.{KeeperFault}

-- the places of a pass are some of those of its number in what it has seen
abbrev pub HasOwnPlaces : PassState → Type 0
HasOwnPlaces pass = ArePart pass.mine (places_of pass.number pass.seen)

-- a caller called a front of the lines that it had, and all of them unless a call was refused; where the keeper refused it, it met a fault
pub record HasServed {J : Type 0} (old new : Caller J) : Type 0 where
  pub number_is : new.pass.number ≡ old.pass.number
  pub own_places : HasOwnPlaces new.pass
  pub front : IsPrefix (lines_by new.pass) (lines_by old.pass ++ old.lot)
  pub whole : new.refused ≡ None → lines_by new.pass ≡ lines_by old.pass ++ old.lot
  pub fault : new.refused ≡ Some KeeperFault → 0 < new.pass.units

-- each of them did
abbrev pub HaveServed : {J : Type 0} → List (Caller J) → List (Caller J) → Type 0
HaveServed [] [] = Unit {0}
HaveServed (old ∷ olds) (new ∷ news) = HasServed old new × HaveServed olds news
HaveServed _ _ = ⊥

-- a caller that has made nothing
pub record IsFresh {J : Type 0} (caller : Caller J) : Type 0 where
  pub pass_is : caller.pass ≡ fresh_pass caller.pass.number
  pub going : caller.refused ≡ None

-- one whose lot has its lines of these
pub record IsReady {J : Type 0} (callers : ℕ) (lines : List AskedLine) (caller : Caller J) : Type 0 where
  pub fresh : IsFresh caller
  pub lot_is : caller.lot ≡ lines_for callers caller.pass.number lines

-- a caller that called a front of its lines of these
pub record HasCalled (callers : ℕ) (lines : List AskedLine) (pass : PassState) : Type 0 where
  pub own_places : HasOwnPlaces pass
  pub front : IsPrefix (lines_by pass) (lines_for callers pass.number lines)

-- one that called all of them
abbrev pub HasCalledAll : ℕ → List AskedLine → PassState → Type 0
HasCalledAll callers lines pass = lines_by pass ≡ lines_for callers pass.number lines

-- what came of a caller
pub record IsServed {J : Type 0} (callers : ℕ) (lines : List AskedLine) (caller : Caller J) : Type 0 where
  pub called : HasCalled callers lines caller.pass
  pub whole : caller.refused ≡ None → HasCalledAll callers lines caller.pass
  pub fault : caller.refused ≡ Some KeeperFault → 0 < caller.pass.units
