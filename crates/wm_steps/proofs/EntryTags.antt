-- Which tags an entry has once some were added, and others left out.
use Rattle.std.proofs.Common.{◌≡◌, ◌&&◌, ◌||◌, Bool, true, false, not, ℕ, List, [], ◌∷◌, ◌++◌, filter, refl, sym, ◌∙◌, ap, subst, inl, inr}
use Rattle.std.proofs.lemmas.Bool.{cases_Bool}
use Rattle.std.proofs.lemmas.List.Folds.{list_any-append}
use Rattle.std.proofs.lemmas.Slice.Eq.{bytes_eq-Decides}
use Rattle.std.specs.Str.{bytes_eq}
use Rattle.wm_index.specs.Entries.{has_tag}

head-kept : (here there keep : Bool) → (here ≡ true → keep ≡ true) → (here || (there && keep)) ≡ ((here || there) && keep)
head-kept true there keep same = sym (same refl)
head-kept false there keep same = refl

head-left : (here there keep : Bool) → (here ≡ true → keep ≡ false) → (there && keep) ≡ ((here || there) && keep)
head-left true there keep same = rw (same refl) (and-false there) where
  and-false : (b : Bool) → (b && false) ≡ false
  and-false true = refl
  and-false false = refl
head-left false there keep same = refl

-- of the tags that pass a test
pub has_tag-filter : (keep : List ℕ → Bool) (tags : List (List ℕ)) (tag : List ℕ) → has_tag (filter keep tags) tag ≡ (has_tag tags tag && keep tag)
has_tag-filter keep [] tag = refl
has_tag-filter keep (own ∷ tags) tag =
    let rest = has_tag-filter keep tags tag in
    let same : (b : Bool) → keep own ≡ b → bytes_eq own tag ≡ true → keep tag ≡ b =
    λ b is equal. subst (λ t. keep t ≡ b) ((bytes_eq-Decides own tag).0 equal) is in
    elim (cases_Bool (keep own)) as (λ _. has_tag (filter keep (own ∷ tags)) tag ≡ (has_tag (own ∷ tags) tag && keep tag)) [
      | inl is ↦ rw is (ap (λ b. bytes_eq own tag || b) rest ∙ head-kept (bytes_eq own tag) (has_tag tags tag) (keep tag) (same true is))
      | inr isnt ↦ rw isnt (rest ∙ head-left (bytes_eq own tag) (has_tag tags tag) (keep tag) (same false isnt))
    ]

both-ways : (own new : Bool) → ((own || (new && not own)) && new) ≡ new
both-ways true true = refl
both-ways true false = refl
both-ways false true = refl
both-ways false false = refl

-- with other tags besides, and then no more than these, it has these
pub settled-tags : (own new : List (List ℕ)) (tag : List ℕ)
    → has_tag (filter (has_tag new) (own ++ filter (λ tag. not (has_tag own tag)) new)) tag ≡ has_tag new tag
settled-tags own new tag =
    has_tag-filter (has_tag new) (own ++ filter (λ tag. not (has_tag own tag)) new) tag
    ∙ ap (λ b. b && has_tag new tag)
    (list_any-append (λ own. bytes_eq own tag) own (filter (λ tag. not (has_tag own tag)) new)
    ∙ ap (λ b. has_tag own tag || b) (has_tag-filter (λ tag. not (has_tag own tag)) new tag))
    ∙ both-ways (has_tag own tag) (has_tag new tag)

-- where it has these and maybe more, and then no more than these, it has these
pub untagged-tags : (own old : List (List ℕ)) (tag : List ℕ) → (has_tag old tag ≡ true → has_tag own tag ≡ true)
    → has_tag (filter (has_tag old) own) tag ≡ has_tag old tag
untagged-tags own old tag more = has_tag-filter (has_tag old) own tag ∙ among (has_tag own tag) (has_tag old tag) more where
  among : (own old : Bool) → (old ≡ true → own ≡ true) → (own && old) ≡ old
  among own true more = rw (more refl) refl
  among true false more = refl
  among false false more = refl

-- what it had it has with others besides
pub tagged-more : (own new : List (List ℕ)) (tag : List ℕ) → has_tag own tag ≡ true → has_tag (own ++ filter (λ tag. not (has_tag own tag)) new) tag ≡ true
tagged-more own new tag has =
    list_any-append (λ own. bytes_eq own tag) own (filter (λ tag. not (has_tag own tag)) new)
    ∙ ap (λ b. b || has_tag (filter (λ tag. not (has_tag own tag)) new) tag) has
