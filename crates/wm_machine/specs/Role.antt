-- What an event is to the runs.
use Rattle.std.specs.Prelude.{◌≡◌, ℕ, List, Option}
use Rattle.wm_data.specs.declared.data.DataEntry.{DataEntry}
use Rattle.wm_machine.specs.declared.command.Command.{Command}
use Rattle.wm_worker.specs.declared.answer.Given.{Given}
use Rattle.wm_worker.specs.declared.answer.Given.TheVariants as given

-- what an event tells of what a worker gave: all of it, or only that it wanted one more turn
pub data Reported : Type 0 where
  This : Given → Reported
  SomeMore : Reported

-- a worker gave this, as far as an event tells it
abbrev pub HasGiven : Reported → Given → Type 0
HasGiven (This told) gave = gave ≡ told
HasGiven SomeMore gave = (progress : Option (List DataEntry)) × (gave ≡ given.More progress)

pub data Role : Type 0 where
  -- a line of the script, with its command
  Line : Command → Role
  -- the run of this number begins, on the instance of this number
  Begins : ℕ → ℕ → Role
  -- no run begins, since the work that is first can't start
  Refuses : Role
  -- the run of this number goes on, and its worker gave this
  GoesOn : ℕ → Given → Role
  -- the run of this number is over, and its worker gave this
  Ends : ℕ → Reported → Role
  -- the run of this number, which was stopped, is away
  Returns : ℕ → Role
