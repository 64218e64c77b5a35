-- The text that a sink was given, and what of it is pending.
use Rattle.std.proofs.Common.{◌≡◌, ℕ, List, [], ◌++◌, length, take, drop, Option, Result, Ok, Err, OnOk, refl, sym, ◌∙◌, ap, subst, append_assoc}
use Rattle.std.proofs.Math.Seq.{take-length}
use Rattle.std.proofs.lemmas.List.{append-nil, take-append-drop}
use Rattle.wm_ended.specs.Ended.{IsPartAppended}
use Rattle.wm_io.proofs.AppendedTexts.{IsAppended-append, IsAppended-nothing}
use Rattle.wm_io.specs.Pending.{IsGivenBut}
use Rattle.wm_io.specs.Writing.{IsAppended}
use Rattle.wm_io.specs.declared.writing.WriteFault.{WriteFault}

-- nothing was written, and everything is pending
pub IsGivenBut-unwritten : (before : Option (List ℕ)) (pending : List ℕ) → IsGivenBut before before pending pending
IsGivenBut-unwritten before pending = record { written = []; given = IsAppended-nothing before; kept = refl }

-- more text, and then more written or pending
pub IsGivenBut-more : (before between now : Option (List ℕ)) (text more pending left : List ℕ)
    → IsGivenBut before between text pending → IsGivenBut between now (pending ++ more) left → IsGivenBut before now (text ++ more) left
IsGivenBut-more before between now text more pending left first then = record {
  written = first.written ++ then.written;
  given = IsAppended-append before between now first.written then.written first.given then.given;
  kept =
      ap (λ (l : List ℕ). l ++ more) first.kept
      ∙ append_assoc first.written pending more
      ∙ ap (λ (l : List ℕ). first.written ++ l) then.kept
      ∙ sym (append_assoc first.written then.written left);
}

-- what was written first and what was written then are written together
IsGivenBut-then : (before between now : Option (List ℕ)) (text pending left : List ℕ)
    → IsGivenBut before between text pending → IsGivenBut between now pending left → IsGivenBut before now text left
IsGivenBut-then before between now text pending left first then = record {
  written = first.written ++ then.written;
  given = IsAppended-append before between now first.written then.written first.given then.given;
  kept = first.kept ∙ ap (λ (l : List ℕ). first.written ++ l) then.kept ∙ sym (append_assoc first.written then.written left);
}

-- what was written in the end is a front of the text
pub IsPartAppended-kept : (before between now : Option (List ℕ)) (text pending left : List ℕ)
    → IsGivenBut before between text pending → IsGivenBut between now pending left → IsPartAppended before now text
IsPartAppended-kept before between now text pending left kept more =
    let all = IsGivenBut-then before between now text pending left kept more in
    record { front = all.written; is_front = (left, all.kept); given = all.given }

-- where nothing is pending any more, the text was given
pub IsAppended-kept : (before between now : Option (List ℕ)) (text pending left : List ℕ) → IsGivenBut before between text pending
    → IsGivenBut between now pending left → left ≡ [] → IsAppended before now text
IsAppended-kept before between now text pending left kept more none =
    let all = IsGivenBut-then before between now text pending left kept more in
    let whole : text ≡ all.written = all.kept ∙ ap (λ (l : List ℕ). all.written ++ l) none ∙ append-nil all.written in
    subst (IsAppended before now) (sym whole) all.given

-- ---- a text that is written at once

-- as much of a text as was taken
pub part-taken : (before now : Option (List ℕ)) (text : List ℕ) (count : ℕ) → IsAppended before now (take count text) → IsPartAppended before now text
part-taken before now text count given = record { front = take count text; is_front = (drop count text, sym (take-append-drop count text)); given = given }

-- all of it, where nothing was refused
pub all-taken : (before now : Option (List ℕ)) (text : List ℕ) (count : ℕ) (answer : Result (Unit {0}) WriteFault) → IsAppended before now (take count text)
    → OnOk answer (count ≡ length text) → OnOk answer (IsAppended before now text)
all-taken before now text count (Ok done) given all = subst (IsAppended before now) (ap (λ n. take n text) all ∙ take-length text) given
all-taken before now text count (Err fault) given all = tt
