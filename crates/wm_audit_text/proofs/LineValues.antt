-- The value of a line that is the text of one, and what is read of it.
use Rattle.std.proofs.Common.{◌≡◌, ℕ, Bool, true, false, cond, List, Option, Some, None, option_and_then, IsUtf8, OnOk, Result, Ok, Err, refl, sym, ap, ◌∙◌}
use Rattle.std.specs.Str.{bytes_eq}
use Rattle.std.proofs.lemmas.Str.{is_utf8-from_IsUtf8}
use Rattle.serde_json.specs.Data as json
use Rattle.serde_json.specs.Read.{read}
use Rattle.serde_json.specs.Written.{compact_text}
use Rattle.wm_audit_text.specs.Lines.{if_spelled, read_by}
use Rattle.wm_machine.proofs.Placings.{bytes_eq-refl, bytes_eq-same}
use Rattle.wm_script.specs.Lines.{value_of}

pub value_of_read : (line : List ℕ) (d : json.Data) → IsUtf8 line → read line ≡ Some d → value_of line ≡ Some d
value_of_read line d utf8 is = rw (is_utf8-from_IsUtf8 line utf8) is

-- what is read has the line
pub spelled-line : {T : Type 0} (form : T → json.Data) (line : List ℕ) (found : Option T) (x : T) → if_spelled form line found ≡ Some x
    → line ≡ compact_text (form x)
spelled-line form line None x is = absurd (cc)
spelled-line {T} form line (Some y) x is = by_test (bytes_eq (compact_text (form y)) line) refl is where
  by_test : (b : Bool) → bytes_eq (compact_text (form y)) line ≡ b → cond b (Some y) None ≡ Some x → line ≡ compact_text (form x)
  by_test true e same =
      let one : y ≡ x = cc in
      sym (bytes_eq-same (compact_text (form y)) line e) ∙ ap (λ (z : T). compact_text (form z)) one
  by_test false e same = absurd (cc)

pub read_by-line : {T : Type 0} (form : T → json.Data) (reader : json.Data → Option T) (line : List ℕ) (x : T) → read_by form reader line ≡ Some x
    → line ≡ compact_text (form x)
read_by-line form reader line x is = spelled-line form line (option_and_then reader (value_of line)) x is

-- what is written is read
pub read_by-text : {T : Type 0} (form : T → json.Data) (reader : json.Data → Option T) (x : T) → value_of (compact_text (form x)) ≡ Some (form x)
    → reader (form x) ≡ Some x → read_by form reader (compact_text (form x)) ≡ Some x
read_by-text form reader x value is = rw (value, is, bytes_eq-refl (compact_text (form x))) refl

-- what follows where a call has done its work
pub ok_then : {T E : Type 0} (r : Result T E) (P Q : Type 0) → (P → Q) → OnOk r P → OnOk r Q
ok_then (Ok x) P Q step h = step h
ok_then (Err e) P Q step h = tt
