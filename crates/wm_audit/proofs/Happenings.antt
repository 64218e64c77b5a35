-- What the step of an event that is told says.
use Rattle.std.proofs.Common.{◌≡◌, ℕ, true, List, ◌++◌, Option, Some, None, sym, ap, ◌∙◌, subst}
use Rattle.std.proofs.lemmas.Option.{same_Some}
use Rattle.wm_audit.proofs.Hushed.{hushed-after}
use Rattle.wm_audit.proofs.Tellings.{text-seen}
use Rattle.wm_audit.specs.Happened.{notes_in, IsHappened, IsSeen, IsWritten}
use Rattle.wm_audit.specs.Places.{IsNext, IsRight}
use Rattle.wm_audit.specs.declared.place.Place.TheVariants.{Log}
use Rattle.wm_audit.specs.declared.seen.Seen.{Seen}
use Rattle.wm_audit_text.specs.Entries.{entry_of}
use Rattle.wm_audit_text.specs.Lines.{entry_at}
use Rattle.wm_audit_text.specs.declared.entry.Entry.{Entry}
use Rattle.wm_machine.proofs.Steps.{Valid-after}
use Rattle.wm_machine.specs.Step.{after}
use Rattle.wm_machine.specs.Valid.{Valid}
use Rattle.wm_machine.specs.declared.event.Event.{Event}
use Rattle.wm_machine.specs.declared.state.State.{State}
use Rattle.wm_texts.specs.Texts.{event_text, text_of}

-- the state after it is valid
pub happened-valid : (s now : State) (told : Entry) (e : Event) → Valid s → IsHappened s told (Some e) now → Valid now
happened-valid s now told e valid happened = subst Valid (sym happened.1.1) (Valid-after s e valid happened.1.0)

-- ---- its text

pub happened-text : (s now : State) (told : Entry) (e : Event) (seen : Option Seen) (text : List ℕ) → IsSeen s seen → IsHappened s told (Some e) now
    → text ≡ text_of e (notes_in seen now) now.hushed → IsWritten s told (Some text) now
happened-text s now told e seen text is happened written =
    let stays : s.hushed ≡ true → now.hushed ≡ true = λ hushed. ap (λ (t : State). t.hushed) happened.1.1 ∙ hushed-after s e hushed in
    (e, happened.0, happened.1, written ∙ text-seen s now seen e stays is)

-- ---- its line

pub right-event : (s now : State) (before text : List ℕ) (line : List ℕ) (told : Entry) → entry_at line ≡ Some told → IsWritten s told (Some text) now
    → IsRight (Log s before) line (Log now (before ++ text))
right-event s now before text line told is written =
    let e = written.0 in
    let state = written.2.1 in
    let next : Log now (before ++ text) ≡ Log (after s e) (before ++ event_text s e (after s e)) =
    ap (λ (t : List ℕ). Log now (before ++ t)) written.3 ∙ ap (λ (t : State). Log t (before ++ event_text s e t)) state in
    (e, is ∙ ap Some written.1, written.2.0, next)

pub no-event : (s now : State) (before : List ℕ) (line : List ℕ) (told : Entry) → entry_at line ≡ Some told → IsWritten s told None now
    → IsNext (Log s before) line None
no-event s now before line told is none = λ next right. none right.0 (same_Some told (entry_of right.0) (sym is ∙ right.1)) right.2

pub no-entry : (s : State) (before : List ℕ) (line : List ℕ) → entry_at line ≡ None → IsNext (Log s before) line None
no-entry s before line is = λ next right. let both = sym is ∙ right.1 in absurd (cc)
