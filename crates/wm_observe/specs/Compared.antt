-- Which records a change may tell another thing of.
use Rattle.std.specs.Prelude.{◌||◌, Bool, false, List, ◌++◌, map, filter, Option, Some, None, option_map, IfSome}
use Rattle.std.specs.List.{list_any}
use Rattle.wm_machine.specs.First.{is_succeeded}
use Rattle.wm_machine.specs.Shown.{info_of}
use Rattle.wm_machine.specs.Valid.{IsRecord}
use Rattle.wm_machine.specs.declared.record.Record.{Record}
use Rattle.wm_machine.specs.declared.state.State.{State}
use Rattle.wm_observe.specs.declared.note.Pair.{Pair}
use Rattle.wm_changes.specs.StepChanges.{changed_state}
use Rattle.wm_changes.specs.Touched.{then_of, touches}
use Rattle.wm_changes.specs.declared.change.StepChange.{StepChange}

-- ---- a record after a change

-- whether a record is there, and has succeeded
abbrev pub succeeds : Option Record → Bool
succeeds None = false
succeeds (Some work) = is_succeeded work.phase

-- a record is within its limits, and so is what is left of it after a change
pub record StaysRecord (change : StepChange) (work : Record) : Type 0 where
  pub before : IsRecord work
  pub after : IfSome (then_of change work) IsRecord

-- ---- what may differ

-- whether what is told of a record may be another thing then: it is touched, or one of its prerequisites is
abbrev pub may_differ : StepChange → Record → Bool
may_differ change work = touches change work.seq || list_any (touches change) work.prior

-- ---- the pairs

-- what is told of a record before and after, among the records before and those after
abbrev pub pair_at : StepChange → List Record → List Record → Record → Pair
pair_at change before after work = record { before = Some (info_of before work); after = option_map (info_of after) (then_of change work) }

-- what is told of a new record
abbrev pub new_pair : List Record → Record → Pair
new_pair after work = record { before = None; after = Some (info_of after work) }

-- what is told of each record before a change of which it may differ, and of each new one
abbrev pub compared_pairs : StepChange → State → List Pair
compared_pairs change s =
    let after = (changed_state change s).works in
    map (pair_at change s.works after) (filter (may_differ change) s.works) ++ map (new_pair after) change.placed
