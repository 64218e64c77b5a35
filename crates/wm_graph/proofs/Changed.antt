-- The entry of one number changed.
use Rattle.std.proofs.Common.{◌≡◌, ℕ, ◌==◌, Bool, true, false, cond, List, [], ◌∷◌, refl, sym, ap, ◌∙◌, arith, Some, None}
use Rattle.wm_graph.proofs.Tests.{same-test}
use Rattle.std.proofs.lemmas.Bool.Decides.{nat_tests}
use Rattle.std.proofs.lemmas.Map.Keys.{sorted_head, sorted_tail}
use Rattle.std.specs.List.{AllByRecursion}
use Rattle.std.specs.List.Sorted.{IsStrictlySortedBy}
use Rattle.std.specs.Map.{keys_of, lookup, set_value}
use Rattle.std.specs.Ordering.{is_eq, nat_cmp}
use Rattle.std.specs.declared.cmp.Ordering.TheVariants.{Less}
use Rattle.std.specs.BTreeMap.{is_at}
use Rattle.wm_collections.proofs.Lists.{All-weaker}
use Rattle.wm_graph.specs.Kept.{changed_at, Kept}

later-apart : (number key later : ℕ) → key ≡ number → nat_cmp key later ≡ Less → (later == number) ≡ false
later-apart number key later same less = grind (arith, nat_tests)

module _ (change : Kept → Kept) (number : ℕ) where
  changed-apart : (entries : List (ℕ × Kept)) → AllByRecursion (λ key. (key == number) ≡ false) (keys_of entries) → changed_at change number entries ≡ entries
  changed-apart [] apart = refl
  changed-apart (entry ∷ entries) apart = rw apart.0 (ap (λ rest. entry ∷ rest) (changed-apart entries apart.1))

  set-at : (kept : Kept) (entry : ℕ × Kept) (entries : List (ℕ × Kept)) (b : Bool) → is_eq (nat_cmp number entry.0) ≡ b → (entry.0 == number) ≡ b
      → AllByRecursion (λ key. nat_cmp entry.0 key ≡ Less) (keys_of entries)
      → (lookup (is_at (nat_cmp number)) entries ≡ Some kept → set_value (is_at (nat_cmp number)) entries (change kept) ≡ changed_at change number entries)
      → lookup (is_at (nat_cmp number)) (entry ∷ entries) ≡ Some kept
      → set_value (is_at (nat_cmp number)) (entry ∷ entries) (change kept) ≡ changed_at change number (entry ∷ entries)
  set-at kept entry entries true at here above rest found =
      let first : Some entry.1 ≡ Some kept = sym (ap (λ b. cond b (Some entry.1) (lookup (is_at (nat_cmp number)) entries)) at) ∙ found in
      let is : entry.1 ≡ kept = cc in
      let same : entry.0 ≡ number = grind (arith, nat_tests) in
      let others = changed-apart entries (All-weaker (keys_of entries) (λ key less. later-apart number entry.0 key same less) above) in
      rw (at, here, others, is) refl
  set-at kept entry entries false at here above rest found =
      rw (at, here) (ap (λ list. entry ∷ list) (rest (sym (ap (λ b. cond b (Some entry.1) (lookup (is_at (nat_cmp number)) entries)) at) ∙ found)))

  pub set-changed : (kept : Kept) (entries : List (ℕ × Kept)) → IsStrictlySortedBy nat_cmp (keys_of entries) → lookup (is_at (nat_cmp number)) entries ≡ Some kept
      → set_value (is_at (nat_cmp number)) entries (change kept) ≡ changed_at change number entries
  set-changed kept [] sorted found = refl
  set-changed kept (entry ∷ entries) sorted found =
      set-at kept entry entries (is_eq (nat_cmp number entry.0)) refl (sym (same-test number entry.0))
      (sorted_head nat_cmp entry.0 (keys_of entries) sorted)
      (set-changed kept entries (sorted_tail nat_cmp entry.0 (keys_of entries) sorted)) found

  none-at : (entry : ℕ × Kept) (entries : List (ℕ × Kept)) (b : Bool) → is_eq (nat_cmp number entry.0) ≡ b → (entry.0 == number) ≡ b
      → (lookup (is_at (nat_cmp number)) entries ≡ None → changed_at change number entries ≡ entries)
      → lookup (is_at (nat_cmp number)) (entry ∷ entries) ≡ None → changed_at change number (entry ∷ entries) ≡ entry ∷ entries
  none-at entry entries true at here rest none =
      let first : Some entry.1 ≡ None = sym (ap (λ b. cond b (Some entry.1) (lookup (is_at (nat_cmp number)) entries)) at) ∙ none in absurd cc
  none-at entry entries false at here rest none =
      rw here (ap (λ list. entry ∷ list) (rest (sym (ap (λ b. cond b (Some entry.1) (lookup (is_at (nat_cmp number)) entries)) at) ∙ none)))

  pub changed-none : (entries : List (ℕ × Kept)) → lookup (is_at (nat_cmp number)) entries ≡ None → changed_at change number entries ≡ entries
  changed-none [] none = refl
  changed-none (entry ∷ entries) none =
      none-at entry entries (is_eq (nat_cmp number entry.0)) refl (sym (same-test number entry.0)) (changed-none entries) none
