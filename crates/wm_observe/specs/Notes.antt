-- What observers are told. After the guide's page "Managing work", "Observing your work".
use Rattle.std.specs.Prelude.{ℕ, ◌+◌, ◌==◌, ◌&&◌, ◌||◌, Bool, true, false, not, List, [], ◌∷◌, ◌++◌, map, filter, filter_map, find, nat_le, if◌then◌else◌, Option, Some, None}
use Rattle.wm_machine.specs.Queried.{matches}
use Rattle.wm_machine.specs.Shown.{infos_of}
use Rattle.wm_machine.specs.Step.{after}
use Rattle.wm_machine.specs.declared.event.Event.{Event}
use Rattle.wm_machine.specs.declared.reply.WorkInfo.{WorkInfo}
use Rattle.wm_machine.specs.declared.state.State.{State}
use Rattle.wm_machine.specs.declared.state.WorkQuery.{WorkQuery}
use Rattle.wm_observe.specs.declared.note.Note.{Note}
use Rattle.wm_observe.specs.declared.note.Note.TheVariants as note
use Rattle.wm_observe.specs.declared.note.Pair.{Pair}
use Rattle.wm_observe.specs.SameInfo.{decided}

-- ---- one work

-- whether two infos are the same
unfoldable pub same_info : WorkInfo → WorkInfo → Bool
same_info one other = (decided one other).holds

-- whether what is told of a work differs before and after; that it isn't there differs from whatever is told
abbrev pub differs_in : Option WorkInfo → Option WorkInfo → Bool
differs_in None None = false
differs_in (Some before) (Some after) = not (same_info before after)
differs_in _ _ = true

abbrev pub differs : Pair → Bool
differs pair = differs_in pair.before pair.after

-- whether a work that is there matches a query
abbrev pub matches_in : WorkQuery → Option WorkInfo → Bool
matches_in query None = false
matches_in query (Some info) = matches query info

-- what is told of a work that has changed: how it is now, or that it is there no more
abbrev pub told_in : ℕ → Option WorkInfo → Option WorkInfo → Option Note
told_in observer before (Some after) = Some (note.Info observer after)
told_in observer (Some before) None = Some (note.Gone observer before.seq)
told_in observer None None = None

-- what an observer of this number is told of a work: something where it differs, and matches the query before or after
abbrev pub note_of : WorkQuery → ℕ → Pair → Option Note
note_of query observer pair =
    if differs pair && (matches_in query pair.before || matches_in query pair.after) then told_in observer pair.before pair.after else None

-- ---- all works, and all observers

-- the observers in order, numbered from this number on, and for each of them the works in order
abbrev pub notes_from : ℕ → List WorkQuery → List Pair → List Note
notes_from number [] pairs = []
notes_from number (query ∷ queries) pairs = filter_map (note_of query number) pairs ++ notes_from (number + 1) queries pairs

abbrev pub notes : List WorkQuery → List Pair → List Note
notes queries pairs = notes_from 1 queries pairs

-- ---- a step

abbrev pub has_number : ℕ → WorkInfo → Bool
has_number number info = info.seq == number

-- what is told of each work of two states, in ascending number: those of the first, and those that are new in the second
abbrev pub pairs_of : State → State → List Pair
pairs_of s t =
    map (λ before. record { before = Some before; after = find (has_number before.seq) (infos_of t) }) (infos_of s)
    ++ map (λ after. record { before = None; after = Some after }) (filter (λ after. nat_le s.next after.seq) (infos_of t))

-- what the observers of a state are told of a step to the next
abbrev pub notes_between : State → State → List Note
notes_between s t = notes s.observers (pairs_of s t)

-- what they are told of the last event of a log, from a first state on; nothing where there is none
abbrev pub last_notes : State → List Event → List Note
last_notes first [] = []
last_notes first (e ∷ []) = notes_between first (after first e)
last_notes first (e ∷ later ∷ log) = last_notes (after first e) (later ∷ log)
