-- One number more in the bytes of a column `prior`.
use Rattle.std.proofs.Common.{◌≡◌, ℕ, zero, suc, ◌*◌, ◌/◌, ◌%◌, ◌^◌, ◌<◌, ◌==◌, ℤ, pos, negsuc, Bool, true, false, cond, List, [], ◌∷◌, ◌++◌, length, length-append, map, take, drop, Some, None, FitsSigned, w64, of_z, to_z-of_z, refl, ap, ap₂, ◌∙◌, arith}
use Rattle.std.proofs.lemmas.Bool.{eqb-true, eq-eqb}
use Rattle.std.proofs.lemmas.List.{take-append-le, drop-append-le, length-drop, map-append}
use Rattle.std.proofs.lemmas.Nat.{from_be_bytes-to_be_bytes_8}
use Rattle.std.specs.Int.{to_be_bytes}
use Rattle.std.specs.Simd.{first_chunks}
use Rattle.wm_columns.specs.Columns.{number_of, prior_in}

-- the bits of a number fit their width
bits_below : (n : ℤ) → FitsSigned w64 n → of_z w64 n < 2 ^ 64
bits_below (pos n) fits = omega (arith, fits.sfits)
bits_below (negsuc n) fits = omega (arith, fits.sfits)

-- a number is read from its bytes
number_of-bytes : (n : ℤ) → FitsSigned w64 n → number_of (to_be_bytes w64 (of_z w64 n)) ≡ n
number_of-bytes n fits = rw (from_be_bytes-to_be_bytes_8 (of_z w64 n) (bits_below n fits)) (to_z-of_z fits)

-- one group more after whole groups
chunks_more : (k : ℕ) (xs ys : List ℕ) → length xs ≡ k * 8 → length ys ≡ 8
    → first_chunks 8 (suc k) (xs ++ ys) ≡ first_chunks 8 k xs ++ ys ∷ []
chunks_more zero [] ys none eight = ap (λ group. group ∷ []) (whole ys eight)
  where
    whole : (zs : List ℕ) → length zs ≡ 8 → take 8 zs ≡ zs
    whole zs is = Rattle.std.proofs.lemmas.List.take_all 8 zs (omega (arith, is))
chunks_more zero (x ∷ xs) ys none eight = absurd (omega (arith, none))
chunks_more (suc k) xs ys many eight =
    ap₂ (λ group groups. group ∷ groups) (take-append-le 8 xs ys (omega (arith, many)))
    (ap (first_chunks 8 (suc k)) (drop-append-le 8 xs ys (omega (arith, many)))
    ∙ chunks_more k (drop 8 xs) ys (omega (arith, length-drop 8 xs, many)) eight)

more : (bytes group : List ℕ) (k : ℕ) (numbers : List ℤ) (n : ℤ) → length bytes ≡ k * 8 → length group ≡ 8 → number_of group ≡ n
    → prior_in bytes ≡ Some numbers → prior_in (bytes ++ group) ≡ Some (numbers ++ n ∷ [])
more bytes group k numbers n whole eight is before =
    let long : length (bytes ++ group) ≡ suc k * 8 = length-append bytes group ∙ omega (arith, whole, eight) in
    let old_rest : (length bytes % 8 == 0) ≡ true = eq-eqb (length bytes % 8) 0 (omega (arith, whole)) in
    let old_count : length bytes / 8 ≡ k = omega (arith, whole) in
    let new_rest : (length (bytes ++ group) % 8 == 0) ≡ true = eq-eqb (length (bytes ++ group) % 8) 0 (omega (arith, long)) in
    let new_count : length (bytes ++ group) / 8 ≡ suc k = omega (arith, long) in
    let known : Some (map number_of (first_chunks 8 k bytes)) ≡ Some numbers = rw (old_rest, old_count) at before in
    let numbers_are : map number_of (first_chunks 8 k bytes) ≡ numbers = cc in
    rw (new_rest, new_count) (ap Some (ap (map number_of) (chunks_more k bytes group whole eight)
    ∙ map-append number_of (first_chunks 8 k bytes) (group ∷ []) ∙ ap₂ ◌++◌ numbers_are (ap (λ m. m ∷ []) is)))

-- one number more is read from its bytes after those of the others
pub prior_more : (bytes : List ℕ) (numbers : List ℤ) (n : ℤ) → FitsSigned w64 n → prior_in bytes ≡ Some numbers
    → prior_in (bytes ++ to_be_bytes w64 (of_z w64 n)) ≡ Some (numbers ++ n ∷ [])
prior_more bytes numbers n fits before = go (length bytes % 8 == 0) refl before
  where
    go : (whole : Bool) → (length bytes % 8 == 0) ≡ whole → cond whole (Some (map number_of (first_chunks 8 (length bytes / 8) bytes))) None ≡ Some numbers
        → prior_in (bytes ++ to_be_bytes w64 (of_z w64 n)) ≡ Some (numbers ++ n ∷ [])
    go true e is =
        let rest : length bytes % 8 ≡ 0 = eqb-true (length bytes % 8) 0 e in
        more bytes (to_be_bytes w64 (of_z w64 n)) (length bytes / 8) numbers n (omega (arith, rest)) refl (number_of-bytes n fits) before
    go false e is = absurd cc
