-- What a line that tells an event makes of a state, and what its observers saw before.
use Rattle.std.specs.Prelude.{◌≡◌, ◌<◌, ◌==◌, ◌&&◌, ℕ, Bool, false, not, List, [], ◌++◌, length, map, filter, find, nat_le, if◌then◌else◌, Option, Some, None, Ok}
use Rattle.wm_audit.specs.declared.place.Place.{Place}
use Rattle.wm_audit.specs.declared.place.Place.TheVariants.{First, Log, Rows}
use Rattle.wm_audit.specs.declared.seen.Seen.{Seen}
use Rattle.wm_audit_text.specs.Entries.{entry_of}
use Rattle.wm_audit_text.specs.declared.entry.Entry.{Entry}
use Rattle.wm_keeper.specs.declared.row.Row.{Row}
use Rattle.wm_machine.specs.Shown.{infos_of}
use Rattle.wm_machine.specs.Step.{Legal, Step}
use Rattle.wm_machine.specs.Valid.{Valid}
use Rattle.wm_machine.specs.declared.event.Event.{Event}
use Rattle.wm_machine.specs.declared.record.Record.{Record}
use Rattle.wm_machine.specs.declared.reply.WorkInfo.{WorkInfo}
use Rattle.wm_machine.specs.declared.state.State.{State}
use Rattle.wm_observe.specs.Notes.{has_number, notes}
use Rattle.wm_observe.specs.declared.note.Note.{Note}
use Rattle.wm_observe.specs.declared.note.Pair.{Pair}
use Rattle.wm_rows.specs.Sound.{checked}
use Rattle.wm_texts.specs.Texts.{event_text}

-- ---- a step

-- the event that is told is a step to this state, or none that would be told so is legal
abbrev pub IsHappened : State → Entry → Option Event → State → Type 0
IsHappened s told None now = (e : Event) → told ≡ entry_of e → Legal s e → ⊥
IsHappened s told (Some e) now = (told ≡ entry_of e) × Step s e now

-- an event that is told is a step to this state, and this is its text; or none that would be told so is legal
abbrev pub IsWritten : State → Entry → Option (List ℕ) → State → Type 0
IsWritten s told None now = (e : Event) → told ≡ entry_of e → Legal s e → ⊥
IsWritten s told (Some text) now = (e : Event) × (told ≡ entry_of e) × Step s e now × (text ≡ event_text s e now)

-- ---- what is told to observers

-- whether anyone may be told of a step from a state: there are observers, and it isn't hushed
abbrev pub is_watched : State → Bool
is_watched s = not s.hushed && not (length s.observers == 0)

-- what the observers of a state saw in it, where any may be told
abbrev pub IsSeen : State → Option Seen → Type 0
IsSeen s None = is_watched s ≡ false
IsSeen s (Some seen) = (seen.observers ≡ s.observers) × (seen.infos ≡ infos_of s) × (seen.next ≡ s.next)

-- what was told of a work with what is told of it among these infos
abbrev pub pair_with : List WorkInfo → WorkInfo → Pair
pair_with infos before = record { before = Some before; after = find (has_number before.seq) infos }

-- what is told of a new work
abbrev pub new_pair : WorkInfo → Pair
new_pair after = record { before = None; after = Some after }

-- what was told of each work with what is told of it among these infos, and then those of them that are numbered from the next one on
abbrev pub pairs_with : List WorkInfo → ℕ → List WorkInfo → List Pair
pairs_with before next infos = map (pair_with infos) before ++ map new_pair (filter (λ after. nat_le next after.seq) infos)

-- what is told of a step to a state to the observers that saw this: nothing where it is hushed
abbrev pub notes_in : Option Seen → State → List Note
notes_in None t = []
notes_in (Some seen) t = if t.hushed then [] else notes seen.observers (pairs_with seen.infos seen.next (infos_of t))

-- ---- a place

-- these are the records of sound rows
abbrev pub AreOfRows : List Record → Type 0
AreOfRows works = (rows : List Row) × (checked rows ≡ Ok works)

-- a place that a line can be read in: a row is still to come, and the rows so far are sound; or the state is valid, and one more run can begin
abbrev pub IsReady : Place → Type 0
IsReady First = Unit {0}
IsReady (Rows hands left works) = (0 < left) × AreOfRows works
IsReady (Log s text) = Valid s × (s.next_run < 18446744073709551615)
