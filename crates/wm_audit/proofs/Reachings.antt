-- What is reached after lines that are right, and what is found there.
use Rattle.std.proofs.Common.{◌≡◌, ℕ, true, zero, suc, ◌+◌, ◌-◌, ◌<◌, ◌≤◌, List, [], ◌∷◌, ◌++◌, length, length-append, Option, Some, None, IfSome, refl, sym, ap, ◌∙◌, subst, arith}
use Rattle.std.specs.Prelude.{IsSomeAnd}
use Rattle.wm_audit.proofs.Cuts.{cut-whole, joined-long, joined-push, later-shorter}
use Rattle.wm_audit.proofs.Openings.{fresh-header, of_rows-push, opened-valid}
use Rattle.wm_audit.specs.Happened.{AreOfRows, IsReady}
use Rattle.wm_audit.specs.Places.{after_rows, joined, record_in, AreRight, IsEnd, IsNext, IsRight}
use Rattle.wm_audit.specs.Verdicts.{AllRight, IsFirstWrong, IsJudged, IsVerdict, Reached}
use Rattle.wm_audit.specs.declared.place.Place.{Place}
use Rattle.wm_audit.specs.declared.place.Place.TheVariants.{First, Log, Rows}
use Rattle.wm_audit.specs.declared.verdict.Verdict.{Verdict}
use Rattle.wm_audit.specs.declared.verdict.Verdict.TheVariants.{Sound, WrongLine, WrongText}
use Rattle.wm_audit_text.specs.Audits.{next_line}
use Rattle.wm_audit_text.specs.Lines.{header_of}
use Rattle.wm_audit_text.specs.declared.headers.Header.{Header}
use Rattle.wm_machine.specs.Opened.{AreFresh}
use Rattle.wm_machine.specs.Step.{after, Legal}
use Rattle.wm_machine.specs.Valid.{Valid}
use Rattle.wm_machine.specs.declared.event.Event.{Event}
use Rattle.wm_machine.specs.declared.record.Record.{Record}
use Rattle.wm_machine.specs.declared.state.Instance.{Instance}
use Rattle.wm_machine.specs.declared.state.State.{State}
use Rattle.wm_replay.proofs.Steps.{goes-on}
use Rattle.wm_replay.specs.Stepped.{GoesOn}

-- ---- what holds of a place

-- at a line of this number: the rows so far are sound, or the state is valid, and as many runs have begun as lines stand before, at most
abbrev pub IsWithin : ℕ → Place → Type 0
IsWithin number First = Unit {0}
IsWithin number (Rows hands left works) = (0 < left) × AreFresh hands × AreOfRows works
IsWithin number (Log s text) = Valid s × (s.next_run ≤ number)

within-rows : (number : ℕ) (hands : List Instance) (left : ℕ) (works : List Record) → 1 ≤ number → AreFresh hands → AreOfRows works
    → IsWithin number (after_rows hands left works)
within-rows number hands zero works some fresh sound = (opened-valid works hands fresh sound, some)
within-rows number hands (suc left) works some fresh sound = (omega arith, fresh, sound)

goes-legal : (s : State) (e : Event) → Valid s → Legal s e → GoesOn s (after s e)
goes-legal s e valid legal = goes-on s (after s e) e true valid (record { legal_is = (λ so. legal, λ is. refl); state_is = λ so. refl }) refl

within-next : (number : ℕ) (here : Place) (line : List ℕ) (next : Place) → 1 ≤ number → IsWithin number here → IsRight here line next
    → IsWithin (number + 1) next
within-next number First line next some within right = by_header (header_of line) (fresh-header line) right where
  by_header : (found : Option Header) → IfSome found (λ header. AreFresh header.hands)
      → IsSomeAnd found (λ header. next ≡ after_rows header.hands header.rows []) → IsWithin (number + 1) next
  by_header None fresh is = absurd is
  by_header (Some header) fresh is =
      subst (λ (p : Place). IsWithin (number + 1) p) (sym is) (within-rows (number + 1) header.hands header.rows [] (omega arith) fresh ([], refl))
within-next number (Rows hands left works) line next some within right = by_record (record_in works line) refl right where
  by_record : (found : Option Record) → record_in works line ≡ found → IsSomeAnd found (λ work. next ≡ after_rows hands (left - 1) (works ++ work ∷ []))
      → IsWithin (number + 1) next
  by_record None here is = absurd is
  by_record (Some work) here is =
      subst (λ (p : Place). IsWithin (number + 1) p) (sym is)
      (within-rows (number + 1) hands (left - 1) (works ++ work ∷ []) (omega arith) within.1 (of_rows-push works line work within.2 here))
within-next number (Log s text) line next some within right =
    let goes = goes-legal s right.0 within.0 right.2 in
    let few : (after s right.0).next_run ≤ number + 1 = let runs = goes.runs in let before = within.1 in omega (arith, runs, before) in
    subst (λ (p : Place). IsWithin (number + 1) p) (sym right.3) (goes.valid, few)

within-right : (number : ℕ) (here : Place) (lines : List (List ℕ)) (last : Place) → 1 ≤ number → IsWithin number here → AreRight here lines last
    → IsWithin (length lines + number) last
within-right number here [] last some within right =
    subst (λ (n : ℕ). IsWithin n last) (omega arith) (subst (λ (p : Place). IsWithin number p) (sym right) within)
within-right number here (line ∷ lines) last some within right =
    let next = within-next number here line right.0 some within right.1 in
    let rest = within-right (number + 1) right.0 lines last (omega arith) next right.2 in
    subst (λ (n : ℕ). IsWithin n last) (omega arith) rest

-- ---- what is reached

pub reached-first : (bytes : List ℕ) → Reached bytes bytes 1 First
reached-first bytes = record { lines = []; whole = refl; number_is = refl; right = refl }

right-push : (here : Place) (lines : List (List ℕ)) (now : Place) (line : List ℕ) (next : Place) → AreRight here lines now → IsRight now line next
    → AreRight here (lines ++ line ∷ []) next
right-push here [] now line next are is = (next, subst (λ (p : Place). IsRight p line next) are is, refl)
right-push here (one ∷ lines) now line next are is = (are.0, are.1, right-push are.0 lines now line next are.2 is)

pub reached-next : (bytes rest : List ℕ) (number : ℕ) (here : Place) (line later : List ℕ) (next : Place) → Reached bytes rest number here
    → next_line rest ≡ Some (line, later) → IsRight here line next → Reached bytes later (number + 1) next
reached-next bytes rest number here line later next reached cut right =
    let lines = reached.lines in
    let many = length-append lines (line ∷ []) in
    let is = reached.number_is in
    record {
      lines = lines ++ line ∷ [];
      whole = reached.whole ∙ ap (λ l. joined lines ++ l) (cut-whole rest line later cut) ∙ sym (joined-push lines line later);
      number_is = omega (arith, many, is);
      right = right-push First lines here line next reached.right right;
    }

-- where a line stands there its number is small
pub reached-few : (bytes rest : List ℕ) (number : ℕ) (here : Place) (line later : List ℕ) → Reached bytes rest number here
    → next_line rest ≡ Some (line, later) → number ≤ length bytes
reached-few bytes rest number here line later reached cut =
    let long = joined-long reached.lines in
    let all = ap length reached.whole ∙ length-append (joined reached.lines) rest in
    let is = reached.number_is in
    let shorter = later-shorter rest line later cut in
    omega (arith, long, all, is, shorter)

ready-within : (number : ℕ) (here : Place) → number < 18446744073709551615 → IsWithin number here → IsReady here
ready-within number First few within = tt
ready-within number (Rows hands left works) few within = (within.0, within.2)
ready-within number (Log s text) few within = let runs = within.1 in (within.0, omega (arith, runs, few))

-- a line can be read there
pub reached-ready : (bytes rest : List ℕ) (number : ℕ) (here : Place) → Reached bytes rest number here → number < 18446744073709551615 → IsReady here
reached-ready bytes rest number here reached few =
    let within = within-right 1 First reached.lines here (omega arith) tt reached.right in
    ready-within number here few (subst (λ (n : ℕ). IsWithin n here) (sym reached.number_is) within)

-- ---- what is found

pub found-end : (bytes rest : List ℕ) (number : ℕ) (here : Place) (line later : List ℕ) (verdict : Verdict) → Reached bytes rest number here
    → next_line rest ≡ Some (line, later) → IsEnd here line later → IsJudged here later verdict → IsVerdict bytes verdict
found-end bytes rest number First line later verdict reached cut ends judged = absurd ends
found-end bytes rest number (Rows hands left works) line later verdict reached cut ends judged = absurd ends
found-end bytes rest number (Log s text) line later (Sound last) reached cut ends judged =
    let whole = subst (λ (l : List ℕ). Reached bytes l number (Log s text)) (cut-whole rest line later cut) reached in
    let all : AllRight bytes s text later = record { number = number; end = line; reached = whole; ends = ends } in
    (text, subst (λ (t : State). AllRight bytes t text text) (sym judged.0) (subst (λ (given : List ℕ). AllRight bytes s text given) judged.1 all))
found-end bytes rest number (Log s text) line later (WrongText at) reached cut ends judged =
    let whole = subst (λ (l : List ℕ). Reached bytes l number (Log s text)) (cut-whole rest line later cut) reached in
    (s, text, later, record { number = number; end = line; reached = whole; ends = ends }, judged)
found-end bytes rest number (Log s text) line later (WrongLine wrong) reached cut ends judged = absurd judged

pub found-wrong : (bytes rest : List ℕ) (number : ℕ) (here : Place) (line later : List ℕ) → Reached bytes rest number here
    → next_line rest ≡ Some (line, later) → (IsEnd here line later → ⊥) → IsNext here line None → IsFirstWrong bytes number
found-wrong bytes rest number here line later reached cut ends next = record {
  rest = rest;
  here = here;
  reached = reached;
  wrong = rw cut (next, ends);
}

pub found-missing : (bytes rest : List ℕ) (number : ℕ) (here : Place) → Reached bytes rest number here → next_line rest ≡ None → IsFirstWrong bytes number
found-missing bytes rest number here reached cut = record { rest = rest; here = here; reached = reached; wrong = rw cut tt }
