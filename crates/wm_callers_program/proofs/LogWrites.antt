-- Texts that are written event by event, each whole or as far as its sink took it.
use Rattle.std.proofs.Common.{◌≡◌, ℕ, ◌+◌, ◌||◌, Bool, List, [], ◌∷◌, ◌++◌, drop, Option, refl, sym, ap, ◌∙◌, append_assoc}
use Rattle.std.proofs.lemmas.List.{append-nil}
use Rattle.wm_callers_program.specs.LogTexts.{hushes, plain_text}
use Rattle.wm_io.proofs.AppendedTexts.{IsAppended-append, IsAppended-nothing}
use Rattle.wm_io.specs.Writing.{IsAppended}
use Rattle.wm_machine.specs.declared.event.Event.{Event}
use Rattle.wm_ended.specs.Ended.{IsPartAppended}
use Rattle.wm_texts.specs.Texts.{text_of}

-- nothing of it
pub part-nothing : (before : Option (List ℕ)) (text : List ℕ) → IsPartAppended before before text
part-nothing before text = record { front = []; is_front = (text, refl); given = IsAppended-nothing before }

-- all of it
pub part-whole : (before now : Option (List ℕ)) (text : List ℕ) → IsAppended before now text → IsPartAppended before now text
part-whole before now text given = record { front = text; is_front = ([], sym (append-nil text)); given = given }

-- a text, and then a part of the next one
pub part-then : (before between now : Option (List ℕ)) (written text rest all : List ℕ) → IsAppended before between written → IsPartAppended between now text
    → written ++ (text ++ rest) ≡ all → IsPartAppended before now all
part-then before between now written text rest all given part is =
    let back = part.is_front.0 in
    record {
      front = written ++ part.front;
      is_front = (
        back ++ rest,
        sym is ∙ ap (λ l. written ++ (l ++ rest)) part.is_front.1 ∙ ap (λ l. written ++ l) (append_assoc part.front back rest)
            ∙ sym (append_assoc written part.front (back ++ rest)),
      );
      given = IsAppended-append before between now written part.front given part.given;
    }

-- one event more is told, after which only summaries are written or aren't
pub plain-more : (hushed next : Bool) (log : List Event) (index : ℕ) (e : Event) (written all : List ℕ) → next ≡ (hushed || hushes e)
    → drop index log ≡ e ∷ drop (index + 1) log → written ++ plain_text hushed (drop index log) ≡ all
    → written ++ (text_of e [] next ++ plain_text next (drop (index + 1) log)) ≡ all
plain-more hushed next log index e written all flag more is =
    (λ i. written ++ (text_of e [] (flag i) ++ plain_text (flag i) (drop (index + 1) log))) ∙ ap (λ left. written ++ plain_text hushed left) (sym more) ∙ is
