-- What a change makes of each record, and which it touches.
use Rattle.std.specs.Prelude.{ℕ, ◌==◌, ◌||◌, Bool, List, [], ◌∷◌, if◌then◌else◌, Option, Some, None}
use Rattle.std.specs.List.{list_any}
use Rattle.wm_collections.specs.Lists.{is_among}
use Rattle.wm_machine.specs.declared.record.Record.{Record}
use Rattle.wm_changes.specs.declared.change.Replacement.{Replacement}
use Rattle.wm_changes.specs.declared.change.StepChange.{StepChange}

-- the last of these that is put in the place of a record, and the record where none is
abbrev pub put_in : List Replacement → Record → Record
put_in [] work = work
put_in (replaced ∷ later) work = put_in later (if replaced.work.seq == work.seq then replaced.work else work)

-- the record after the change; none where it is removed
abbrev pub then_of : StepChange → Record → Option Record
then_of change work = if is_among change.removed work.seq then None else Some (put_in change.replaced (put_in change.told work))

-- whether the record of this number is another one after the change, or is gone
abbrev pub touches : StepChange → ℕ → Bool
touches change number =
    is_among change.removed number
    || (list_any (λ replaced. replaced.work.seq == number) change.told || list_any (λ replaced. replaced.work.seq == number) change.replaced)
