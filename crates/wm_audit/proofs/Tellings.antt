-- What is told to observers of a step.
use Rattle.std.proofs.Common.{◌≡◌, ◌⊎◌, ◌==◌, ℕ, Bool, true, false, eqb, not, List, [], ◌∷◌, find, length, map, Option, Some, None, option_map, IfOk, Result, Ok, Err, refl, sym, ap, ◌∙◌, inl, inr, arith}
use Rattle.std.proofs.lemmas.Bool.{and_cases, cases_Bool, ne_eqb, true≢false}
use Rattle.std.specs.declared.alloc.AllocError.{AllocError}
use Rattle.wm_audit.specs.Happened.{notes_in, pairs_with, IsSeen}
use Rattle.wm_audit.specs.declared.seen.Seen.{Seen}
use Rattle.wm_machine.specs.Input.{work_numbered}
use Rattle.wm_machine.specs.Shown.{info_of, infos_of}
use Rattle.wm_machine.specs.declared.event.Event.{Event}
use Rattle.wm_machine.specs.declared.record.Record.{Record}
use Rattle.wm_machine.specs.declared.state.State.{State}
use Rattle.wm_machine.specs.declared.state.WorkQuery.{WorkQuery}
use Rattle.wm_observe.specs.Notes.{has_number, notes, notes_between, pairs_of}
use Rattle.wm_observe.specs.declared.note.Note.{Note}
use Rattle.wm_observe.specs.declared.note.Pair.{Pair}
use Rattle.wm_texts.specs.Texts.{event_text, text_of}

-- what is told of the work of a number
pub find-told : (all works : List Record) (number : ℕ)
    → find (has_number number) (map (info_of all) works) ≡ option_map (info_of all) (work_numbered number works)
find-told all [] number = refl
find-told all (work ∷ works) number = elim (cases_Bool (eqb work.seq number)) [ inl e ↦ rw e refl | inr e ↦ rw e (find-told all works number) ]

-- what is made of the pairs is what the observers are told
pub notes-made : (r : Result (List Note) AllocError) (seen : Option Seen) (one : Seen) (t : State) (queries : List WorkQuery) (pairs : List Pair)
    → seen ≡ Some one → t.hushed ≡ false → queries ≡ one.observers → pairs ≡ pairs_with one.infos one.next (map (info_of t.works) t.works)
    → IfOk r (λ told. told ≡ notes queries pairs) → IfOk r (λ told. told ≡ notes_in seen t)
unfolding infos_of
notes-made (Ok told) seen one t queries all is awake theirs are made =
    rw (is, awake) (made ∙ ap (λ queries. notes queries all) theirs ∙ ap (notes one.observers) are)
notes-made (Err refused) seen one t queries all is awake theirs are made = tt

-- notes that are all there are where they count give the text
text-hushed : (e : Event) (hushed : Bool) (one other : List Note) → (hushed ≡ false → one ≡ other) → text_of e one hushed ≡ text_of e other hushed
unfolding text_of
text-hushed e true one other same = refl
text-hushed e false one other same = ap (λ (told : List Note). text_of e told false) (same refl)

notes-seen : (s t : State) (seen : Option Seen) (hushed : Bool) → (s.hushed ≡ true → t.hushed ≡ true) → t.hushed ≡ hushed → IsSeen s seen → hushed ≡ false
    → notes_in seen t ≡ notes_between s t
unfolding infos_of
notes-seen s t None hushed stays e is awake =
    by_watch s.hushed refl (and_cases (not s.hushed) (not (length s.observers == 0)) is) where
      none : (queries : List WorkQuery) → not (length queries == 0) ≡ false → queries ≡ []
      none [] is = refl
      none (query ∷ queries) is = absurd (true≢false (sym (ap not (ne_eqb (length (query ∷ queries)) 0 (λ same. absurd (omega (arith, same))))) ∙ is))

      by_watch : (b : Bool) → s.hushed ≡ b → (not s.hushed ≡ false) ⊎ (not (length s.observers == 0) ≡ false) → notes_in None t ≡ notes_between s t
      by_watch true here either = absurd (true≢false (sym (stays here) ∙ e ∙ awake))
      by_watch false here (inl is) = absurd (true≢false (sym (ap not here) ∙ is))
      by_watch false here (inr is) = ap (λ queries. notes queries (pairs_of s t)) (sym (none s.observers is))
notes-seen s t (Some seen) true stays e is awake = absurd (cc)
notes-seen s t (Some seen) false stays e is awake =
    rw e
    (ap (λ queries. notes queries (pairs_with seen.infos seen.next (infos_of t))) is.0
    ∙ ap (λ infos. notes s.observers (pairs_with infos seen.next (infos_of t))) is.1
    ∙ ap (λ next. notes s.observers (pairs_with (infos_of s) next (infos_of t))) is.2)

pub text-seen : (s t : State) (seen : Option Seen) (e : Event) → (s.hushed ≡ true → t.hushed ≡ true) → IsSeen s seen
    → text_of e (notes_in seen t) t.hushed ≡ event_text s e t
text-seen s t seen e stays is =
    text-hushed e t.hushed (notes_in seen t) (notes_between s t) (notes-seen s t seen t.hushed stays refl is)
