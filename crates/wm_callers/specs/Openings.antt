-- What a contract sees of a desk that is to be opened.
use Rattle.std.specs.Prelude.{◌≡◌, ℕ, []}
use Rattle.atomic_table.specs.Seated.{TableId}
use Rattle.atomic_table.specs.declared.shared.Seat.{Seat}
use Rattle.wm_callers.specs.Inputs.{DeskInputs}
use Rattle.wm_callers.specs.Rule.{all_of, IsDeskSeat}
use Rattle.wm_callers.specs.declared.view.View.{View}

pub record OpeningState : Type 0 where
  pub board : TableId
  pub callers : ℕ
  pub calls : ℕ
  pub refusals : ℕ

-- which desk it will be, over a table whose keeper has this count of faults
abbrev pub inputs_of : OpeningState → ℕ → DeskInputs
inputs_of opening faults =
    record { board = opening.board; callers = opening.callers; calls = opening.calls; refusals = opening.refusals; faults = faults }

-- its seat knows that there is no entry, and its ledgers have a part for each caller
pub record OpeningInvariant (board : TableId) (seat : Seat (Unit {0}) View) (calls_parts fault_parts callers : ℕ) : Type 0 where
  pub seat_is : IsDeskSeat board seat
  pub empty : all_of seat ≡ []
  pub calls : calls_parts ≡ callers
  pub faults : fault_parts ≡ callers
