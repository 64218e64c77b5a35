-- What is built for an update: the change of its step.
use Rattle.std.specs.Prelude.{◌≡◌, ◌≢◌, ◌⊎◌, ℕ}
use Rattle.wm_machine.specs.Rows.{row_of}
use Rattle.wm_machine.specs.Updated.{applied, one_update_more, updated}
use Rattle.wm_machine.specs.declared.command.Command.{Command}
use Rattle.wm_machine.specs.declared.event.Event.{Event}
use Rattle.wm_machine.specs.declared.event.Event.TheVariants as event
use Rattle.wm_machine.specs.declared.record.Record.{Record}
use Rattle.wm_machine.specs.declared.reply.Reply.TheVariants as reply
use Rattle.wm_request.specs.Requests.{RequestFields}
use Rattle.wm_request.specs.declared.request.NextRun.{NextRun}
use Rattle.wm_request.specs.declared.request.NextRun.TheVariants.{Leave}
use Rattle.wm_changes.specs.StepChanges.{keeping_row, replacing}
use Rattle.wm_changes.specs.declared.change.RunChange.{RunChange}
use Rattle.wm_changes.specs.declared.change.RunChange.TheVariants as runs
use Rattle.wm_changes.specs.declared.change.StepChange.{StepChange}

-- what becomes of the runs where this is asked of the next one of the work of this number: its current one is renewed, or all stay
abbrev pub renewal : NextRun → ℕ → RunChange
renewal Leave seq = runs.Unchanged
renewal _ seq = runs.Renew seq

-- one record is replaced by another, with what becomes of the runs: its row is put, or kept where it is the same
abbrev pub IsReplacing : ℕ → Record → Record → RunChange → Event → StepChange → Type 0
IsReplacing index work new run e change =
    ((row_of new ≡ row_of work) × (change ≡ keeping_row index new run e)) ⊎ ((row_of new ≢ row_of work) × (change ≡ replacing index new run e))

-- the event of an update by a command: its reply tells when it counts, and how often the work was updated
abbrev pub update_event : ℕ → Command → Record → Event
update_event line asked work = event.Command line asked (reply.Updated (applied work.phase) (one_update_more work.generation))

-- an update of the record at an index, by a command
abbrev pub IsUpdating : ℕ → Command → ℕ → Record → RequestFields → StepChange → Type 0
IsUpdating line asked index work request =
    IsReplacing index work (updated request work) (renewal request.next work.seq) (update_event line asked work)
