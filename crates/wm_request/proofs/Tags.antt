-- Tags stay short and ascending with one more.
use Rattle.std.proofs.Common.{◌≡◌, ℕ, ◌+◌, ◌<◌, ◌≤◌, List, [], ◌∷◌, ◌++◌, length, take, drop, insert, get_or, Ordering, Less, Equal, Greater, nat_cmp, refl, sym, ap, ◌∙◌, take-append-drop}
use Rattle.std.proofs.lemmas.Cmp.{nat_list_cmp_total}
use Rattle.std.proofs.lemmas.List.{append_assoc, drop_all, drop_more, take_more}
use Rattle.std.specs.Cmp.Lexicographic.{slice_cmp}
use Rattle.std.specs.List.{AllByRecursion}
use Rattle.std.specs.Ordering.{match_ordering, ordering_reverse}
use Rattle.wm_collections.specs.Lists.{AscendByBytes}
use Rattle.wm_request.specs.Building.{with_tag}
use Rattle.wm_request.specs.Requests.{AreSortedTags, IsShortText}

-- a tag beside the first of the others, by how the two compare
abbrev placed_by : List ℕ → List ℕ → List (List ℕ) → Ordering → List (List ℕ)
placed_by tag other tags order = match_ordering order (tag ∷ other ∷ tags) (other ∷ tags) (other ∷ with_tag tag tags)

All-placed_by : (P : List ℕ → Type 0) (tag other : List ℕ) (tags : List (List ℕ)) (order : Ordering) → P tag → AllByRecursion P (other ∷ tags)
    → AllByRecursion P (with_tag tag tags) → AllByRecursion P (placed_by tag other tags order)
All-placed_by P tag other tags Less h all later = (h, all)
All-placed_by P tag other tags Equal h all later = all
All-placed_by P tag other tags Greater h all later = (all.0, later)

-- what holds of a tag and of each of the others holds of them all
All-with_tag : (P : List ℕ → Type 0) (tag : List ℕ) (tags : List (List ℕ)) → P tag → AllByRecursion P tags → AllByRecursion P (with_tag tag tags)
All-with_tag P tag [] h all = (h, tt)
All-with_tag P tag (other ∷ tags) h all = All-placed_by P tag other tags (slice_cmp nat_cmp tag other) h all (All-with_tag P tag tags h all.1)

-- a tag comes before the other, and so before all that come after that one
ComesBefore : List ℕ → List ℕ → Type 0
ComesBefore tag other = slice_cmp nat_cmp tag other ≡ Less

before_all : (tag other : List ℕ) (tags : List (List ℕ)) → ComesBefore tag other → AllByRecursion (λ later. slice_cmp nat_cmp other later ≡ Less) tags
    → AllByRecursion (λ later. slice_cmp nat_cmp tag later ≡ Less) tags
unfolding ComesBefore
before_all tag other [] less above = tt
before_all tag other (later ∷ tags) less above = (nat_list_cmp_total.trans tag other later less above.0, before_all tag other tags less above.1)

ascend-placed_by : (tag other : List ℕ) (tags : List (List ℕ)) (order : Ordering) → slice_cmp nat_cmp tag other ≡ order → AscendByBytes (other ∷ tags)
    → AscendByBytes (with_tag tag tags) → AscendByBytes (placed_by tag other tags order)
unfolding ComesBefore
ascend-placed_by tag other tags Less is up later = ((is, before_all tag other tags is up.0), up)
ascend-placed_by tag other tags Equal is up later = up
ascend-placed_by tag other tags Greater is up later =
    let less : slice_cmp nat_cmp other tag ≡ Less = nat_list_cmp_total.antisymm other tag ∙ ap ordering_reverse is in
    (All-with_tag (λ later. slice_cmp nat_cmp other later ≡ Less) tag tags less up.0, later)

ascend-with_tag : (tag : List ℕ) (tags : List (List ℕ)) → AscendByBytes tags → AscendByBytes (with_tag tag tags)
ascend-with_tag tag [] up = (tt, tt)
ascend-with_tag tag (other ∷ tags) up = ascend-placed_by tag other tags (slice_cmp nat_cmp tag other) refl up (ascend-with_tag tag tags up.1)

pub AreSortedTags-with_tag : (tag : List ℕ) (tags : List (List ℕ)) → IsShortText tag → AreSortedTags tags → AreSortedTags (with_tag tag tags)
AreSortedTags-with_tag tag tags short sorted = record {
  short = All-with_tag IsShortText tag tags short sorted.short;
  ascending = ascend-with_tag tag tags sorted.ascending;
}

-- ---- the place of a tag

-- a tag that comes after the first of these goes among the others
abbrev pub GoesOn : List ℕ → List (List ℕ) → ℕ → Type 0
GoesOn tag tags index = with_tag tag tags ≡ take index tags ++ with_tag tag (drop index tags)

module _ (tag : List ℕ) (tags : List (List ℕ)) (index : ℕ) (here : List ℕ) (within : index < length tags) (is : here ≡ get_or tags index here)
    (goes : GoesOn tag tags index) where
  rest : drop index tags ≡ here ∷ drop (index + 1) tags
  rest = drop_more tags index here within ∙ ap (λ first. first ∷ drop (index + 1) tags) (sym is)
