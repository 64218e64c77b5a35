-- What the types of a pass and of the locked value keep.
use Rattle.std.specs.Prelude.{◌≡◌, ℕ, ◌+◌, ◌-◌, ◌^◌, ◌≤◌, List, length, min}
use Rattle.atomic_table.specs.declared.shared.Seat.{Seat}
use Rattle.wm_callers.specs.History.{Stands}
use Rattle.wm_callers.specs.Inputs.{DeskInputs}
use Rattle.wm_callers.specs.PassState.{PassState}
use Rattle.wm_callers.specs.Places.{places_of, ArePart}
use Rattle.wm_callers.specs.Told.{TableTold}
use Rattle.wm_callers.specs.Rule.{all_of, own_of, IsDeskSeat, IsPassSeat}
use Rattle.wm_callers.specs.declared.view.View.{View}

abbrev pub pass_state : ℕ → Seat (Unit {0}) View → ℕ → PassState
pass_state number seat units = record { number = number; seen = (own_of seat).seen; mine = (own_of seat).mine; units = units }

-- the pass of this number of the desk: its share of calls has as many as it made
pub record PassInvariant (desk : DeskInputs) (number : ℕ) (seat : Seat (Unit {0}) View) (made_parts made_amount met_parts : ℕ) : Type 0 where
  pub seat_is : IsPassSeat desk.board seat
  pub number_is : (own_of seat).number ≡ number
  pub one_part : made_parts ≡ 1
  pub calls : made_amount ≡ length (own_of seat).mine
  pub fault_part : met_parts ≡ 1
  pub own_places : ArePart (own_of seat).mine (places_of number (own_of seat).seen)

-- what stands under the lock: the history that the seat knows stands for the log and is counted, and the keeper's count of faults is above that at the
-- opening by as many as callers met
pub record HeldInvariant (desk : DeskInputs) (told : TableTold) (callers : List ℕ) (seat : Seat (Unit {0}) View) (calls faults : ℕ) : Type 0 where
  pub seat_is : IsDeskSeat desk.board seat
  pub stands : Stands callers told.log (all_of seat)
  pub counted : calls ≡ length (all_of seat)
  pub faulted : min (desk.faults + faults) (2 ^ 64 - 1) ≤ told.faults
  pub later : desk.faults ≤ told.faults
