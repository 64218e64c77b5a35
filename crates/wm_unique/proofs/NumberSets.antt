-- What numbers bring to a set, and those that a set leaves.
use Rattle.std.proofs.Common.{◌≡◌, ℕ, ◌+◌, ◌<◌, ◌==◌, ◌||◌, Bool, true, false, cond, List, [], ◌∷◌, ◌++◌, length, filter, get_or, take, ap, sym, ◌∙◌, arith}
use Rattle.std.proofs.Math.Bool.{or-false}
use Rattle.std.proofs.lemmas.Bool.Decides.{nat_tests}
use Rattle.std.proofs.lemmas.List.{append-nil, take_more}
use Rattle.std.proofs.lemmas.List.Elements.{filter-append}
use Rattle.std.proofs.lemmas.List.Folds.{list_any-append}
use Rattle.std.specs.List.{list_any}
use Rattle.std.specs.Ordering.{is_eq, nat_cmp}
use Rattle.std.specs.BTreeSet.{contains, BTreeSet, Updates}
use Rattle.wm_collections.specs.Lists.{is_among}

-- what each of the first numbers brings, and one number more
pub brought-more : (brings : ℕ → ℕ → Bool) (group : List ℕ) (i : ℕ) → i < length group → (old new : BTreeSet ℕ)
    → ((other : ℕ) → contains nat_cmp old other ≡ list_any (λ number. brings number other) (take i group))
    → ((other : ℕ) → contains nat_cmp new other ≡ (contains nat_cmp old other || brings (get_or group i 0) other))
    → (other : ℕ) → contains nat_cmp new other ≡ list_any (λ number. brings number other) (take (i + 1) group)
brought-more brings group i within old new so_far more other =
    rw (take_more group i 0 within, list_any-append)
    (more other ∙ ap (λ b. b || brings (get_or group i 0) other) (so_far other)
    ∙ ap (λ b. list_any (λ number. brings number other) (take i group) || b) (sym (or-false (brings (get_or group i 0) other))))

-- of the first numbers those are left that pass a test, and one more passes
pub left-with : (test : ℕ → Bool) (group : List ℕ) (i : ℕ) → i < length group → (left : List ℕ) → left ≡ filter test (take i group)
    → test (get_or group i 0) ≡ true → left ++ get_or group i 0 ∷ [] ≡ filter test (take (i + 1) group)
left-with test group i within left so_far passes =
    rw (take_more group i 0 within, filter-append, passes) (ap (λ numbers. numbers ++ get_or group i 0 ∷ []) so_far)

-- or it doesn't
pub left-without : (test : ℕ → Bool) (group : List ℕ) (i : ℕ) → i < length group → (left : List ℕ) → left ≡ filter test (take i group)
    → test (get_or group i 0) ≡ false → left ≡ filter test (take (i + 1) group)
left-without test group i within left so_far fails =
    rw (take_more group i 0 within, filter-append, fails) (so_far ∙ sym (append-nil (filter test (take i group))))
