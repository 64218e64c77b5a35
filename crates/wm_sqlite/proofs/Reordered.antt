-- An order of what a list shows is what an order of the list shows.
use Rattle.std.proofs.Common.{◌≡◌, List, [], ◌∷◌, map, IsPermutation, refl, ap₂}
use Rattle.std.proofs.lemmas.List.Sorted.{IsPermutation-refl, IsPermutation-cons, IsPermutation-trans, IsPermutation-middle}
use Rattle.sqlite_keyed.proofs.ListLemmas.{along_permutation}

module _ {X Y : Type 0} (f : X → Y) where
  -- of each list that shows the one, an order shows the other
  abbrev Reorders : List Y → List Y → Type 0
  Reorders shown other = (xs : List X) → shown ≡ map f xs → (ys : List X) × IsPermutation xs ys × (other ≡ map f ys)

  same : (shown : List Y) → Reorders shown shown
  same shown xs e = (xs, IsPermutation-refl xs, e)

  skip : (a : Y) (shown other : List Y) → Reorders shown other → Reorders (a ∷ shown) (a ∷ other)
  skip a shown other h [] e = absurd cc
  skip a shown other h (x ∷ xs) e =
      let first : a ≡ f x = cc in
      let rest : shown ≡ map f xs = cc in
      let more = h xs rest in
      (x ∷ more.0, IsPermutation-cons x xs more.0 more.1, ap₂ ◌∷◌ first more.2)

  turn : (a b : Y) (shown : List Y) → Reorders (a ∷ b ∷ shown) (b ∷ a ∷ shown)
  turn a b shown [] e = absurd cc
  turn a b shown (x ∷ []) e = absurd cc
  turn a b shown (x ∷ y ∷ xs) e =
      let first : a ≡ f x = cc in
      let second : b ≡ f y = cc in
      let rest : shown ≡ map f xs = cc in
      (y ∷ x ∷ xs, IsPermutation-middle (x ∷ []) y xs, ap₂ ◌∷◌ second (ap₂ ◌∷◌ first rest))

  chain : (shown mid other : List Y) → Reorders shown mid → Reorders mid other → Reorders shown other
  chain shown mid other p q xs e =
      let first = p xs e in
      let then = q first.0 first.2 in
      (then.0, IsPermutation-trans xs first.0 then.0 first.1 then.1, then.2)

  -- what is shown in another order is the list in that order, shown
  pub reordered : (xs : List X) (shown : List Y) → IsPermutation (map f xs) shown → (ys : List X) × IsPermutation xs ys × (shown ≡ map f ys)
  reordered xs shown h = along_permutation Reorders same skip turn chain (map f xs) shown h xs refl
