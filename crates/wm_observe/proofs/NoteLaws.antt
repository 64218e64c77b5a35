-- What is told of works of which something differs is all that is told, and what is told of one event more.
use Rattle.std.proofs.Common.{◌≡◌, ℕ, ◌+◌, ◌++◌, ◌&&◌, ◌||◌, cond, List, [], ◌∷◌, filter, filter_map, None, refl, sym, ◌∙◌, ap, inl, inr}
use Rattle.std.specs.List.{cons_option}
use Rattle.std.proofs.lemmas.Bool.{cases_Bool}
use Rattle.wm_machine.specs.Replay.{Replay}
use Rattle.wm_machine.specs.Step.{after}
use Rattle.wm_machine.specs.declared.event.Event.{Event}
use Rattle.wm_machine.specs.declared.state.State.{State}
use Rattle.wm_machine.specs.declared.state.WorkQuery.{WorkQuery}
use Rattle.wm_observe.specs.Notes.{differs, last_notes, matches_in, note_of, notes, notes_between, notes_from, told_in}
use Rattle.wm_observe.specs.declared.note.Pair.{Pair}

-- ---- pairs that differ

-- of a work of which nothing differs nothing is told
told_differing : (query : WorkQuery) (observer : ℕ) (pairs : List Pair)
    → filter_map (note_of query observer) (filter differs pairs) ≡ filter_map (note_of query observer) pairs
told_differing query observer [] = refl
told_differing query observer (pair ∷ pairs) =
    let rest = told_differing query observer pairs in
    let tell = note_of query observer in
    let left = filter differs pairs in
    let matched = matches_in query pair.before || matches_in query pair.after in
    let told = told_in observer pair.before pair.after in
    elim (cases_Bool (differs pair)) [
      | inl e ↦ ap (λ b. filter_map tell (cond b (pair ∷ left) left)) e ∙ ap (cons_option (tell pair)) rest
      | inr e ↦
          ap (λ b. filter_map tell (cond b (pair ∷ left) left)) e ∙ rest
          ∙ sym (ap (λ b. cons_option (cond (b && matched) told None) (filter_map tell pairs)) e)
    ]

from_differing : (number : ℕ) (queries : List WorkQuery) (pairs : List Pair)
    → notes_from number queries (filter differs pairs) ≡ notes_from number queries pairs
from_differing number [] pairs = refl
from_differing number (query ∷ queries) pairs = rw (told_differing query number pairs, from_differing (number + 1) queries pairs) refl

-- pairs that differ alike are told alike
pub notes-differing : (queries : List WorkQuery) (some all : List Pair) → filter differs some ≡ filter differs all → notes queries some ≡ notes queries all
notes-differing queries some all same = sym (from_differing 1 queries some) ∙ ap (notes queries) same ∙ from_differing 1 queries all

-- ---- a log

-- of a log with one event more that event is told
pub last_notes-push : (first : State) (log : List Event) (last : State) (e : Event) → Replay first log last
    → last_notes first (log ++ e ∷ []) ≡ notes_between last (after last e)
last_notes-push first [] last e replays = ap (λ s. notes_between s (after s e)) (sym replays)
last_notes-push first (d ∷ []) last e replays = last_notes-push (after first d) [] last e replays.1
last_notes-push first (d ∷ next ∷ log) last e replays = last_notes-push (after first d) (next ∷ log) last e replays.1
