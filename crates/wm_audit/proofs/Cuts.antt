-- The first line of bytes, and lines after one another.
use Rattle.std.proofs.Common.{◌≡◌, ℕ, ◌+◌, ◌<◌, ◌≤◌, Bool, true, false, cond, eqb, List, [], ◌∷◌, ◌++◌, length, length-append, Option, Some, None, option_map, refl, sym, ap, ◌∙◌, append_assoc, arith}
use Rattle.std.proofs.lemmas.Bool.{eqb-true}
use Rattle.std.proofs.lemmas.List.{append-nil}
use Rattle.std.proofs.lemmas.Option.{same_Some}
use Rattle.wm_audit.specs.Places.{joined}
use Rattle.wm_audit_text.specs.Audits.{next_line, with_lf}

-- what is cut off stands before what is left
pub cut-whole : (bytes line later : List ℕ) → next_line bytes ≡ Some (line, later) → bytes ≡ with_lf line ++ later
cut-whole [] line later is = absurd (cc)
cut-whole (byte ∷ bytes) line later is = by_test (eqb byte 10) refl is (cut-whole bytes) where
  by_rest : (found : Option (List ℕ × List ℕ)) → next_line bytes ≡ found → option_map {U = List ℕ × List ℕ} (λ cut. (byte ∷ cut.0, cut.1)) found ≡ Some (line, later)
      → ((line later : List ℕ) → next_line bytes ≡ Some (line, later) → bytes ≡ with_lf line ++ later)
      → byte ∷ bytes ≡ with_lf line ++ later
  by_rest None here is again = absurd (cc)
  by_rest (Some cut) here is again =
      let both = same_Some (byte ∷ cut.0, cut.1) (line, later) is in
      let rest = again cut.0 cut.1 here in
      ap (λ l. byte ∷ l) rest ∙ ap (λ (p : List ℕ × List ℕ). with_lf p.0 ++ p.1) both

  by_test : (b : Bool) → eqb byte 10 ≡ b → cond b (Some ([], bytes)) (option_map {U = List ℕ × List ℕ} (λ cut. (byte ∷ cut.0, cut.1)) (next_line bytes)) ≡ Some (line, later)
      → ((line later : List ℕ) → next_line bytes ≡ Some (line, later) → bytes ≡ with_lf line ++ later)
      → byte ∷ bytes ≡ with_lf line ++ later
  by_test true e is again =
      let both = same_Some ([], bytes) (line, later) is in
      ap (λ b. b ∷ bytes) (eqb-true byte 10 e) ∙ ap (λ (p : List ℕ × List ℕ). with_lf p.0 ++ p.1) both
  by_test false e is again = by_rest (next_line bytes) refl is again

pub later-shorter : (bytes line later : List ℕ) → next_line bytes ≡ Some (line, later) → length later < length bytes
later-shorter bytes line later is =
    let whole = ap length (cut-whole bytes line later is) ∙ length-append (with_lf line) later in
    let one = length-append line (10 ∷ []) in
    omega (arith, whole, one)

-- ---- lines after one another

pub joined-push : (lines : List (List ℕ)) (line rest : List ℕ) → joined (lines ++ line ∷ []) ++ rest ≡ joined lines ++ (with_lf line ++ rest)
joined-push [] line rest = ap (λ l. l ++ rest) (append-nil (with_lf line))
joined-push (one ∷ lines) line rest =
    append_assoc (with_lf one) (joined (lines ++ line ∷ [])) rest ∙ ap (λ l. with_lf one ++ l) (joined-push lines line rest)
    ∙ sym (append_assoc (with_lf one) (joined lines) (with_lf line ++ rest))

-- each has one byte at least
pub joined-long : (lines : List (List ℕ)) → length lines ≤ length (joined lines)
joined-long [] = omega arith
joined-long (line ∷ lines) =
    let rest = joined-long lines in
    let all = length-append (with_lf line) (joined lines) in
    let one = length-append line (10 ∷ []) in
    omega (arith, rest, all, one)
