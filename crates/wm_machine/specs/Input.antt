-- What a run takes. After the guide's page "Chaining work" (input mergers), where the outputs of a work's prerequisites are inputs to it; the
-- order of the inputs, and that periodic work takes its own as it is, are this project's own choice.
use Rattle.std.specs.Prelude.{◌≡◌, ℕ, ◌==◌, List, ◌∷◌, filter_map, find, Option, Some, None, option_map, Result, Ok, Err}
use Rattle.wm_data.specs.declared.data.DataEntry.{DataEntry}
use Rattle.wm_machine.specs.declared.event.Cause.{Cause}
use Rattle.wm_machine.specs.declared.event.Cause.TheVariants as cause
use Rattle.wm_machine.specs.declared.record.Record.{Record}
use Rattle.wm_machine.specs.declared.state.State.{State}
use Rattle.wm_merge.specs.Merged.{merged}
use Rattle.wm_merge.specs.declared.fault.MergeFault.{MergeFault}
use Rattle.wm_merge.specs.declared.fault.MergeFault.TheVariants as fault
use Rattle.wm_schedule.specs.declared.schedule.Period.{Period}

-- the record of this number
abbrev pub work_numbered : ℕ → List Record → Option Record
work_numbered seq works = find (λ work. work.seq == seq) works

-- what the prerequisites of a work gave, in the order in which it names them
abbrev pub outputs_for : List Record → Record → List (List DataEntry)
outputs_for works work = filter_map (λ seq. option_map (λ prior. prior.output) (work_numbered seq works)) work.prior

-- one-time work takes what its merger makes of its own input and then of what its prerequisites gave, and periodic work its own alone
abbrev pub input_by : Option Period → List Record → Record → Result (List DataEntry) MergeFault
input_by None works work = merged work.request.merger (work.request.input ∷ outputs_for works work)
input_by (Some period) works work = Ok work.request.input

-- what a run of a work among these records takes, or why it has no input
abbrev pub input_among : List Record → Record → Result (List DataEntry) MergeFault
input_among works work = input_by work.request.period works work

-- what a run of a work of a state takes
abbrev pub input_of : State → Record → Result (List DataEntry) MergeFault
input_of s work = input_among s.works work

-- why inputs don't become one, where they don't
abbrev pub cause_in : Result (List DataEntry) MergeFault → Option Cause
cause_in (Ok input) = None
cause_in (Err (fault.Conflict key)) = Some (cause.Conflict key)
cause_in (Err (fault.TooLarge size)) = Some (cause.TooLarge size)
cause_in (Err fault.Memory) = None

-- an answer tells what a run takes, or the cause for which there is no input
abbrev pub IsTaken : Result (List DataEntry) MergeFault → Result (List DataEntry) Cause → Type 0
IsTaken taken (Ok input) = taken ≡ Ok input
IsTaken taken (Err cause) = cause_in taken ≡ Some cause
