-- Where a walk begins, and what a graph keeps of its edges and counts.
use Rattle.std.proofs.Common.{◌≡◌, ℕ, ◌+◌, ◌<◌, ◌==◌, ◌||◌, ◌&&◌, Bool, true, false, cond, List, [], ◌∷◌, ◌++◌, length, find, take, refl, sym, ap, subst, ◌∙◌, arith, Option, Some, None, is_some, get_or, inl, inr}
use Rattle.std.proofs.Math.Bool.{or-false}
use Rattle.wm_graph.proofs.Tests.{same-test}
use Rattle.std.proofs.lemmas.Bool.{and_parts, cases_Bool, eqb-true, false≢true}
use Rattle.wm_graph.proofs.Unmet.{met-later}
use Rattle.std.proofs.lemmas.List.{take_more}
use Rattle.std.proofs.lemmas.List.Folds.{list_any-append}
use Rattle.std.proofs.lemmas.Bool.Decides.{nat_tests}
use Rattle.std.specs.List.{AllByRecursion, list_any}
use Rattle.std.specs.Map.{lookup}
use Rattle.std.specs.Ordering.{is_eq, nat_cmp}
use Rattle.std.specs.BTreeMap.{is_at}
use Rattle.std.specs.BTreeSet.{BTreeSet, Updates}
use Rattle.std.specs.Option.{option_map_or}
use Rattle.wm_collections.specs.Lists.{is_among}
use Rattle.wm_collections.proofs.Lists.{any_passes, one_gives}
use Rattle.wm_collections.specs.Sets.{has_number}
use Rattle.wm_graph.specs.Edges.{AreEdgesOf, AreRising, BeginsAt, Edge}
use Rattle.wm_graph.specs.Kept.{nodes_of, IsCounted, Kept}
use Rattle.wm_graph.specs.Marks.{before_of, is_met, unmet_of}
use Rattle.wm_graph.specs.Nodes.{AreAscending, HasNode, IsGraph, NodeFields}

some-cond : {T : Type 0} (b : Bool) (x : T) (rest : Option T) → is_some (cond b (Some x) rest) ≡ (b || is_some rest)
some-cond true x rest = refl
some-cond false x rest = refl

-- a node is there where the map has its number
pub there-is : (entries : List (ℕ × Kept)) (number : ℕ) → is_some (lookup (is_at (nat_cmp number)) entries) ≡ list_any (λ node. node.seq == number) (nodes_of entries)
there-is [] number = refl
there-is (entry ∷ entries) number =
    some-cond (is_eq (nat_cmp number entry.0)) entry.1 (lookup (is_at (nat_cmp number)) entries)
    ∙ ap (λ b. b || is_some (lookup (is_at (nat_cmp number)) entries)) (same-test number entry.0)
    ∙ ap (λ b. (entry.0 == number) || b) (there-is entries number)

-- ---- edges go up

earlier-at : (node : NodeFields) (from to : ℕ) → AllByRecursion (λ number. number < node.seq) node.before → (node.seq == to && is_among node.before from) ≡ true → from < to
earlier-at node from to earlier named =
    let is : node.seq ≡ to = eqb-true node.seq to (and_parts (node.seq == to) (is_among node.before from) named).0 in
    let less : from < node.seq = one_gives node.before (λ one below here. subst (λ n. n < node.seq) (eqb-true one from here) below) earlier
    (any_passes (λ one. one == from) node.before (and_parts (node.seq == to) (is_among node.before from) named).1) in
    subst (λ n. from < n) is less

pub rising : (nodes : List NodeFields) (edges : BTreeSet Edge) → IsGraph nodes → AreEdgesOf nodes edges → AreRising edges
rising nodes edges graph are from to has =
    one_gives nodes (λ node is named. earlier-at node from to is.earlier named) graph.each
    (any_passes (λ node. node.seq == to && is_among node.before from) nodes (sym (are from to) ∙ has))

-- ---- what is kept of a node that is found

module _ (all : List NodeFields) (number : ℕ) (kept : Kept) where
  abbrev Found : List (ℕ × Kept) → Type 0
  Found entries = length (unmet_of all (option_map_or (λ (node : NodeFields). node.before) (find (λ node. node.seq == number) (nodes_of entries)) [])) ≡ kept.unmet

  count-at : (entry : ℕ × Kept) (entries : List (ℕ × Kept)) (b : Bool) → is_eq (nat_cmp number entry.0) ≡ b → (entry.0 == number) ≡ b → IsCounted all entry
      → (lookup (is_at (nat_cmp number)) entries ≡ Some kept → Found entries)
      → lookup (is_at (nat_cmp number)) (entry ∷ entries) ≡ Some kept → Found (entry ∷ entries)
  count-at entry entries true at here count rest found =
      let first : Some entry.1 ≡ Some kept = sym (ap (λ b. cond b (Some entry.1) (lookup (is_at (nat_cmp number)) entries)) at) ∙ found in
      let is : entry.1 ≡ kept = cc in
      rw here (sym count ∙ ap (λ kept. kept.unmet) is)
  count-at entry entries false at here count rest found =
      rw here (rest (sym (ap (λ b. cond b (Some entry.1) (lookup (is_at (nat_cmp number)) entries)) at) ∙ found))

  pub count-found : (entries : List (ℕ × Kept)) → AllByRecursion (IsCounted all) entries → lookup (is_at (nat_cmp number)) entries ≡ Some kept → Found entries
  count-found [] counts found = absurd cc
  count-found (entry ∷ entries) counts found =
      count-at entry entries (is_eq (nat_cmp number entry.0)) refl (sym (same-test number entry.0)) counts.0 (count-found entries counts.1) found

-- ---- one number more

then-case : (a h q new : Bool) → new ≡ cond q true (a && h) → (q ≡ true → h ≡ true) → new ≡ ((a || (q || false)) && h)
then-case true true true new is here = is
then-case true true false new is here = is
then-case true false true new is here = absurd (let e = here refl in cc)
then-case true false false new is here = is
then-case false true true new is here = is
then-case false true false new is here = is
then-case false false true new is here = absurd (let e = here refl in cc)
then-case false false false new is here = is

else-case : (a h q : Bool) → (q ≡ true → h ≡ false) → (a && h) ≡ ((a || (q || false)) && h)
else-case true h q here = refl
else-case false true true here = absurd (let e = here refl in cc)
else-case false false true here = refl
else-case false h false here = refl

module _ (entries : List (ℕ × Kept)) (seqs : List ℕ) (i : ℕ) (within : i < length seqs) (old : BTreeSet ℕ) (begins : BeginsAt (nodes_of entries) (take i seqs) old) where
  abbrev seq : ℕ
  seq = get_or seqs i 0

  taken : take (i + 1) seqs ≡ take i seqs ++ seq ∷ []
  taken = take_more seqs i 0 within

  pub start-more : (new : BTreeSet ℕ) → is_some (lookup (is_at (nat_cmp seq)) entries) ≡ true → Updates nat_cmp old new seq true → BeginsAt (nodes_of entries) (take (i + 1) seqs) new
  start-more new there updates n =
      let h = list_any (λ node. node.seq == n) (nodes_of entries) in
      let test : is_eq (nat_cmp seq n) ≡ (seq == n) = grind (arith, nat_tests) in
      rw (taken, list_any-append)
      (then-case (is_among (take i seqs) n) h (seq == n) (has_number new n)
      (updates.0 n ∙ ap (λ b. cond b true (has_number old n)) test ∙ ap (λ b. cond (seq == n) true b) (begins n))
      (λ e. subst (λ m. list_any (λ node. node.seq == m) (nodes_of entries) ≡ true) (eqb-true seq n e) (sym (there-is entries seq) ∙ there)))

  pub start-same : is_some (lookup (is_at (nat_cmp seq)) entries) ≡ false → BeginsAt (nodes_of entries) (take (i + 1) seqs) old
  start-same absent n =
      let h = list_any (λ node. node.seq == n) (nodes_of entries) in
      rw (taken, list_any-append)
      (begins n ∙ else-case (is_among (take i seqs) n) h (seq == n)
      (λ e. subst (λ m. list_any (λ node. node.seq == m) (nodes_of entries) ≡ false) (eqb-true seq n e) (sym (there-is entries seq) ∙ absent)))

-- ---- the mark of a node

pub absent : (entries : List (ℕ × Kept)) (number : ℕ) → lookup (is_at (nat_cmp number)) entries ≡ None → HasNode (nodes_of entries) number → ⊥
absent entries number none there = false≢true (sym (ap is_some none) ∙ there-is entries number ∙ there)

module _ (number : ℕ) (kept : Kept) where
  done-at : (entry : ℕ × Kept) (entries : List (ℕ × Kept)) (b : Bool) → is_eq (nat_cmp number entry.0) ≡ b → (entry.0 == number) ≡ b
      → AllByRecursion (λ later. entry.0 < later.seq) (nodes_of entries)
      → (lookup (is_at (nat_cmp number)) entries ≡ Some kept → is_met (nodes_of entries) number ≡ kept.done)
      → lookup (is_at (nat_cmp number)) (entry ∷ entries) ≡ Some kept → is_met (nodes_of (entry ∷ entries)) number ≡ kept.done
  done-at entry entries true at here above rest found =
      let first : Some entry.1 ≡ Some kept = sym (ap (λ b. cond b (Some entry.1) (lookup (is_at (nat_cmp number)) entries)) at) ∙ found in
      let is : entry.1 ≡ kept = cc in
      let later : is_met (nodes_of entries) number ≡ false =
      met-later number (nodes_of entries) (subst (λ n. AllByRecursion (λ later. n < later.seq) (nodes_of entries)) (eqb-true entry.0 number here) above) in
      rw (here, later) (or-false entry.1.done ∙ ap (λ kept. kept.done) is)
  done-at entry entries false at here above rest found =
      rw here (rest (sym (ap (λ b. cond b (Some entry.1) (lookup (is_at (nat_cmp number)) entries)) at) ∙ found))

  pub done-found : (entries : List (ℕ × Kept)) → AreAscending (nodes_of entries) → lookup (is_at (nat_cmp number)) entries ≡ Some kept
      → is_met (nodes_of entries) number ≡ kept.done
  done-found [] ascending found = absurd cc
  done-found (entry ∷ entries) ascending found =
      done-at entry entries (is_eq (nat_cmp number entry.0)) refl (sym (same-test number entry.0)) ascending.0 (done-found entries ascending.1) found

done-none_at : (a b c : Bool) → (a || c) ≡ false → (a && b) ≡ false
done-none_at true b c none = absurd cc
done-none_at false b c none = refl

rest-none : (a c : Bool) → (a || c) ≡ false → c ≡ false
rest-none true c none = absurd cc
rest-none false c none = none

none-met : (nodes : List NodeFields) (number : ℕ) → list_any (λ node. node.seq == number) nodes ≡ false → is_met nodes number ≡ false
none-met [] number none = refl
none-met (node ∷ nodes) number none =
    rw (done-none_at (node.seq == number) node.done (list_any (λ node. node.seq == number) nodes) none)
    (none-met nodes number (rest-none (node.seq == number) (list_any (λ node. node.seq == number) nodes) none))

pub done-none : (entries : List (ℕ × Kept)) (number : ℕ) → lookup (is_at (nat_cmp number)) entries ≡ None → is_met (nodes_of entries) number ≡ false
done-none entries number none = none-met (nodes_of entries) number (sym (there-is entries number) ∙ ap is_some none)

-- ---- the prerequisites of a node

pub before-is : (entries : List (ℕ × Kept)) (number : ℕ)
    → before_of (nodes_of entries) number ≡ option_map_or (λ (kept : Kept). kept.before) (lookup (is_at (nat_cmp number)) entries) []
before-is [] number = refl
before-is (entry ∷ entries) number =
    elim (cases_Bool (entry.0 == number)) as (λ _. before_of (nodes_of (entry ∷ entries)) number
    ≡ option_map_or (λ (kept : Kept). kept.before) (lookup (is_at (nat_cmp number)) (entry ∷ entries)) []) [
      | inl is ↦ rw (same-test number entry.0, is) refl
      | inr isnt ↦ rw (same-test number entry.0, isnt) (before-is entries number)
    ]
