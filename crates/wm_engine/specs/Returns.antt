-- The return of a run that was stopped.
use Rattle.std.specs.Prelude.{◌≡◌, ℕ}
use Rattle.wm_machine.specs.declared.state.State.{State}
use Rattle.wm_runs.specs.Builds.{IsReturn}
use Rattle.wm_changes.specs.StepChanges.{changed_state}
use Rattle.wm_changes.specs.declared.change.StepChange.{StepChange}

-- the second state is the one that the change makes of the first by which the run of this number is away
pub record IsReturnMade (number : ℕ) (s t : State) : Type 0 where
  pub change : StepChange
  pub is : IsReturn s number change
  pub state : t ≡ changed_state change s
