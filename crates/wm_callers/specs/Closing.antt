-- What the closing of a desk gives.
use Rattle.std.specs.Prelude.{◌≡◌, ℕ, zero, suc, ◌+◌, ◌-◌, ◌^◌, ◌<◌, ◌≤◌, List, [], ◌∷◌, ◌++◌, length, map, min, sum}
use Rattle.std.specs.List.{AllByRecursion}
use mathlib.Core.List.{IsPrefix}
use Rattle.wm_callers.specs.History.{Stands}
use Rattle.wm_callers.specs.Inputs.{DeskInputs}
use Rattle.wm_callers.specs.PassState.{PassState}
use Rattle.wm_callers.specs.Places.{places_of, ArePart}
use Rattle.wm_callers.specs.Told.{TableTold}
use Rattle.wm_callers.specs.declared.entry.Signed.{Signed}

-- a pass that has seen and made nothing
abbrev pub fresh_pass : ℕ → PassState
fresh_pass number = record { number = number; seen = []; mine = []; units = 0 }

-- so many of them, with the numbers from 0 on
abbrev pub fresh_passes : ℕ → List PassState
fresh_passes zero = []
fresh_passes (suc callers) = fresh_passes callers ++ fresh_pass callers ∷ []

-- what a pass has seen begins all entries, and its places are some of those of its number in it, in order
pub record FitsIn (all : List Signed) (pass : PassState) : Type 0 where
  pub seen_is : IsPrefix pass.seen all
  pub mine_is : ArePart pass.mine (places_of pass.number pass.seen)

abbrev pub IsBefore : PassState → PassState → Type 0
IsBefore one later = one.number < later.number

-- one history stands for the log: what each pass has seen begins it, the places at which it has a pass's number are those of the pass, and it has
-- no others; and the count of faults is above that at the opening by as many as the passes met
pub record IsClosed (desk : DeskInputs) (passes : List PassState) (callers : List ℕ) (told : TableTold) : Type 0 where
  pub all : List Signed
  pub stands : Stands callers told.log all
  pub seen : AllByRecursion (λ pass. IsPrefix pass.seen all) passes
  pub mine : AllByRecursion (λ pass. places_of pass.number all ≡ pass.mine) passes
  pub counted : sum (map (λ pass. length pass.mine) passes) ≡ length all
  pub faults : min (desk.faults + sum (map (λ pass. pass.units) passes)) (2 ^ 64 - 1) ≤ told.faults
  pub later : desk.faults ≤ told.faults
