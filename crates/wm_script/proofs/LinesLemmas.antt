-- Lemmas on the lines of a script and their commands.
use Rattle.std.proofs.Common.{◌≡◌, ℕ, ◌+◌, ◌<◌, ◌≤◌, List, [], ◌∷◌, length, take, drop, Option, Some, None, refl, ap, arith, one-add, add-one, eqb, cond, not, true, false, Bool, position, Result, Ok, Err, IsOk, IfOk, ◌↔◌, IsUtf8, true≢false, sym}
use Rattle.std.specs.List.{before_first, after_first, position_or_len}
use Rattle.std.proofs.lemmas.Bool.Decides.{nat_tests}
use Rattle.std.proofs.lemmas.List.{drop_all, take_all, take_rest}
use Rattle.std.proofs.lemmas.Option.{cond_some}
use Rattle.std.proofs.lemmas.Str.{IsUtf8-from_is_utf8, is_utf8-from_IsUtf8}
use Rattle.std.specs.Result.{result_ok}
use Rattle.std.specs.Str.{is_utf8}
use Rattle.serde_json.specs.Read.{read}
use Rattle.wm_script.specs.Lines.{cut, onto_first, value_of}

-- ---- the cut

-- a byte is an LF
abbrev is_lf : ℕ → Bool
is_lf byte = eqb byte 10

-- one byte more, which is an LF or joins the first line
cut_step : (b : Bool) (byte n : ℕ) (bytes : List ℕ) → onto_first byte (cut bytes) ≡ (byte ∷ take n bytes) ∷ cut (drop (n + 1) bytes)
    → cond b ([] ∷ cut bytes) (onto_first byte (cut bytes)) ≡ take (cond (not b) (1 + n) 0) (byte ∷ bytes) ∷ cut
    (drop (cond (not b) (1 + n) 0 + 1) (byte ∷ bytes))
cut_step true byte n bytes e = refl
cut_step false byte n bytes e = simp (one-add, add-one) (rw add-one at e)

-- the first line ends before the first LF, and the other lines stand after it
pub cut-first : (bytes : List ℕ) → 0 < length bytes → cut bytes ≡ before_first is_lf bytes ∷ cut (after_first is_lf bytes)
cut-first [] h = absurd (omega arith)
cut-first (byte ∷ []) h = cut_step (is_lf byte) byte 0 [] refl
cut-first (byte ∷ next ∷ bytes) h =
    cut_step (is_lf byte) byte (position_or_len is_lf (next ∷ bytes)) (next ∷ bytes) (ap (onto_first byte) (cut-first (next ∷ bytes) (omega arith)))

-- where the first LF stands at an index, the line ends there
pub cut_at : (bytes : List ℕ) (end : ℕ) → position is_lf bytes ≡ Some end → cut bytes ≡ take end bytes ∷ cut (drop (end + 1) bytes)
cut_at bytes end e =
    let found = cond_some _ _ _ e in
    let within : position_or_len is_lf bytes < length bytes = grind (arith, nat_tests) in
    rw found.1 at (cut-first bytes (omega arith))

-- where there is no LF, all is one line
pub cut_whole : (bytes : List ℕ) → 0 < length bytes → position is_lf bytes ≡ None → cut bytes ≡ bytes ∷ []
cut_whole bytes h e =
    let past : length bytes ≤ position_or_len is_lf bytes = grind (arith, nat_tests) in
    let after : length bytes ≤ position_or_len is_lf bytes + 1 = omega arith in
    rw (take_all _ bytes past, drop_all _ bytes after) at (cut-first bytes h)

pub ruleset line_ends = (cut_at, cut_whole, take_rest)

-- ---- what the crates' readers answer

-- a result that is there exactly where an option is, with its value
pub same_ok : {U E : Type 0} (o : Option U) (r : Result U E) → (IsOk r ↔ ((u : U) × (o ≡ Some u))) → IfOk r (λ u. Some u ≡ o) → result_ok r ≡ o
same_ok o (Ok u) h same = same
same_ok None (Err e) h same = refl
same_ok (Some u) (Err e) h same = absurd (true≢false (sym (h.1 (u, refl))))

-- a line in UTF-8 has the value that its text has
pub value_of_text : (line : List ℕ) → IsUtf8 line → value_of line ≡ read line
value_of_text line h = rw (is_utf8-from_IsUtf8 line h)

-- a line has no value where it isn't in UTF-8, or its text has none
pub value_of_none : (line : List ℕ) → (IsUtf8 line → read line ≡ None) → value_of line ≡ None
value_of_none line h =
    elim (is_utf8 line) as (λ b. is_utf8 line ≡ b → cond b (read line) None ≡ None) [ true ↦ λ e. h (IsUtf8-from_is_utf8 line e) | false ↦ λ e. refl ] refl

pub ruleset values = (value_of_text, value_of_none)
