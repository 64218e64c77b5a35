-- Tags that ascend, and how a request takes them.
use Rattle.std.proofs.Common.{◌≡◌, ℕ, ◌+◌, ◌<◌, ◌≤◌, true, ◌&&◌, List, [], ◌∷◌, ◌++◌, length, take, drop, get_or, Ordering, Less, Equal, Greater, nat_cmp, refl, sym, ap, ◌∙◌, subst, arith, nat_le, take-append-drop}
use Rattle.std.proofs.lemmas.Bool.{and_from, and_parts}
use Rattle.std.proofs.lemmas.Cmp.{nat_list_cmp_total}
use Rattle.std.proofs.lemmas.List.{drop_more, take_more}
use Rattle.std.specs.Cmp.Lexicographic.{slice_cmp}
use Rattle.std.specs.List.{AllByRecursion, list_all}
use Rattle.std.specs.Ordering.{is_lt, ordering_reverse}
use Rattle.wm_collections.specs.Lists.{AllLater, AscendByBytes}
use Rattle.wm_request.specs.Building.{is_short, with_tag}
use Rattle.wm_request.specs.Requests.{RequestFields}
use Rattle.wm_rows.specs.Fields.{are_tags, ascend}

pub ascend-few : (texts : List (List ℕ)) → length texts ≤ 1 → ascend texts ≡ true
ascend-few [] few = refl
ascend-few (text ∷ []) few = refl
ascend-few (text ∷ next ∷ texts) few = absurd (omega (arith, few))

-- a text comes before another
ComesBefore : List ℕ → List ℕ → Type 0
ComesBefore text other = slice_cmp nat_cmp text other ≡ Less

less_of : (order : Ordering) → is_lt order ≡ true → order ≡ Less
less_of Less is = refl
less_of Equal is = absurd (cc)
less_of Greater is = absurd (cc)

before_all : (text next : List ℕ) (texts : List (List ℕ)) → slice_cmp nat_cmp text next ≡ Less
    → AllByRecursion (λ later. slice_cmp nat_cmp next later ≡ Less) texts → AllByRecursion (λ later. slice_cmp nat_cmp text later ≡ Less) texts
before_all text next [] less above = tt
before_all text next (later ∷ texts) less above = (nat_list_cmp_total.trans text next later less above.0, before_all text next texts less above.1)

-- texts that each come before the next come before all later ones
pub AscendByBytes-ascend : (texts : List (List ℕ)) → ascend texts ≡ true → AscendByBytes texts
AscendByBytes-ascend [] up = tt
AscendByBytes-ascend (text ∷ []) up = (tt, tt)
AscendByBytes-ascend (text ∷ next ∷ texts) up =
    let parts = and_parts (is_lt (slice_cmp nat_cmp text next)) (ascend (next ∷ texts)) up in
    let later = AscendByBytes-ascend (next ∷ texts) parts.1 in
    let less = less_of (slice_cmp nat_cmp text next) parts.0 in
    ((less, before_all text next texts less later.0), later)

pub ascend-AscendByBytes : (texts : List (List ℕ)) → AscendByBytes texts → ascend texts ≡ true
ascend-AscendByBytes [] up = refl
ascend-AscendByBytes (text ∷ []) up = refl
ascend-AscendByBytes (text ∷ next ∷ texts) up = and_from _ _ (ap is_lt up.0.0) (ascend-AscendByBytes (next ∷ texts) up.1)

-- ---- a tag behind those before it

pub with_tag-last : (tag : List ℕ) (tags : List (List ℕ)) → AllByRecursion (λ other. slice_cmp nat_cmp other tag ≡ Less) tags
    → with_tag tag tags ≡ tags ++ tag ∷ []
with_tag-last tag [] before = refl
with_tag-last tag (other ∷ tags) before =
    let after : slice_cmp nat_cmp tag other ≡ Greater = nat_list_cmp_total.antisymm tag other ∙ ap ordering_reverse before.0 in
    rw after (ap (λ rest. other ∷ rest) (with_tag-last tag tags before.1))

-- an element has this fact with each before it
pub All-before : {T : Type 0} (R : T → T → Type 0) (before : List T) (x : T) (later : List T) → AllLater R (before ++ x ∷ later)
    → AllByRecursion (λ y. R y x) before
All-before R [] x later all = tt
All-before {T} R (y ∷ before) x later all = (first before all.0, All-before R before x later all.1) where
  first : (rest : List T) → AllByRecursion (R y) (rest ++ x ∷ later) → R y x
  first [] all = all.0
  first (z ∷ rest) all = first rest all.1

-- ---- tags that are added one after another

module _ (tags : List (List ℕ)) (i : ℕ) (tag : List ℕ) (within : i < length tags) (is : tag ≡ get_or tags i tag) (are : are_tags tags ≡ true) where
  up : AscendByBytes tags
  up =
      let sorted = (and_parts (nat_le (length tags) 32) (list_all is_short tags && ascend tags) are).1 in
      AscendByBytes-ascend tags (and_parts (list_all is_short tags) (ascend tags) sorted).1

  left : take i tags ++ tag ∷ drop (i + 1) tags ≡ tags
  left = ap (λ rest. take i tags ++ rest) (ap (λ x. x ∷ drop (i + 1) tags) is ∙ sym (drop_more tags i tag within)) ∙ take-append-drop i tags

  more : with_tag tag (take i tags) ≡ take (i + 1) tags
  more =
      with_tag-last tag (take i tags) (All-before (λ one other. slice_cmp nat_cmp one other ≡ Less) (take i tags) tag (drop (i + 1) tags)
      (subst AscendByBytes (sym left) up))
      ∙ ap (λ x. take i tags ++ x ∷ []) is ∙ sym (take_more tags i tag within)

  -- one tag more of a request that has those before it
  pub tag_added : (first now new : RequestFields) (text : List ℕ) → now ≡ record first { tags = take i tags } → text ≡ tag
      → new ≡ record now { tags = with_tag text now.tags } → new ≡ record first { tags = take (i + 1) tags }
  tag_added first now new text so_far same added =
      added ∙ ap (λ (r : RequestFields). record r { tags = with_tag text r.tags }) so_far
      ∙ ap (λ t. record first { tags = t }) (ap (λ t. with_tag t (take i tags)) same ∙ more)
