-- Numbers that are taken out of a set one after another, and the leaves, which are left.
use Rattle.std.proofs.Common.{◌≡◌, ℕ, ◌+◌, ◌<◌, ◌==◌, ◌||◌, ◌&&◌, Bool, true, false, not, cond, List, [], ◌∷◌, ◌++◌, length, filter, get_or, take, refl, sym, ap, ◌∙◌, arith, subst, inl, inr, Bor, map}
use Rattle.std.proofs.Math.Bool.{or-false}
use Rattle.std.proofs.lemmas.Bool.{cases_Bool, eqb-true}
use Rattle.std.proofs.lemmas.Bool.Decides.{nat_tests}
use Rattle.std.proofs.lemmas.List.{append-nil, take_more}
use Rattle.std.proofs.lemmas.List.Folds.{list_any-append}
use Rattle.std.proofs.lemmas.Map.Keys.{sorted_head, sorted_tail}
use Rattle.std.specs.List.{AllByRecursion, list_any}
use Rattle.std.specs.List.Sorted.{IsStrictlySortedBy}
use Rattle.std.specs.Map.Iter.{deref}
use Rattle.std.specs.Ordering.{is_eq, nat_cmp}
use Rattle.std.specs.declared.cmp.Ordering.TheVariants.{Less}
use Rattle.std.specs.BTreeMap.{is_at}
use Rattle.std.specs.BTreeSet.{BTreeSet, IsOrdered, Updates}
use Rattle.wm_collections.specs.Lists.{AllLater, is_among}
use Rattle.wm_collections.proofs.Lists.{All-any, All-weaker, AllLater-filter, AllLater-map, list_any-agree, list_any-kept, list_any_after}
use Rattle.wm_collections.proofs.Ascending.{ascending-same}
use Rattle.wm_graph.proofs.Found.{any-swap, names-none}
use Rattle.wm_graph.proofs.Tests.{any-and, eq-swap, under}
use Rattle.wm_collections.specs.Sets.{has_number, IsListOf}
use Rattle.wm_graph.specs.Edges.{names, BeginsAt}
use Rattle.wm_graph.specs.Leaves.{is_before_any, is_leaf, is_needed, leaves}
use Rattle.wm_graph.specs.Marks.{before_of}
use Rattle.wm_graph.specs.Nodes.{AreAscending, IsGraph, NodeFields}

-- ---- one number less

drop-case : (o a n new : Bool) → new ≡ cond n false (o && not a) → new ≡ (o && not (a || (n || false)))
drop-case true true true new is = is
drop-case true true false new is = is
drop-case true false true new is = is
drop-case true false false new is = is
drop-case false a true new is = is
drop-case false a false new is = is

need-case : (o a n : Bool) → ((o && not a) && not n) ≡ (o && not (a || (n || false)))
need-case true true n = refl
need-case true false true = refl
need-case true false false = refl
need-case false a n = refl

pub dropped-more : (others : List ℕ) (i : ℕ) → i < length others → (first old new : BTreeSet ℕ)
    → ((number : ℕ) → has_number old number ≡ (has_number first number && not (is_among (take i others) number)))
    → Updates nat_cmp old new (get_or others i 0) false
    → (number : ℕ) → has_number new number ≡ (has_number first number && not (is_among (take (i + 1) others) number))
dropped-more others i within first old new so_far updates number =
    let test : is_eq (nat_cmp (get_or others i 0) number) ≡ (get_or others i 0 == number) = grind (arith, nat_tests) in
    rw (take_more others i 0 within, list_any-append)
    (drop-case (has_number first number) (is_among (take i others) number) (get_or others i 0 == number) (has_number new number)
    (updates.0 number ∙ ap (λ b. cond b false (has_number old number)) test
    ∙ ap (λ b. cond (get_or others i 0 == number) false b) (so_far number)))

pub needed-more : (nodes : List NodeFields) (among : List ℕ) (i : ℕ) → i < length among → (first old new : BTreeSet ℕ)
    → ((number : ℕ) → has_number old number ≡ (has_number first number && not (is_before_any nodes (take i among) number)))
    → ((number : ℕ) → has_number new number ≡ (has_number old number && not (is_among (before_of nodes (get_or among i 0)) number)))
    → (number : ℕ) → has_number new number ≡ (has_number first number && not (is_before_any nodes (take (i + 1) among) number))
needed-more nodes among i within first old new so_far dropped number =
    rw (take_more among i 0 within, list_any-append)
    (dropped number ∙ ap (λ b. b && not (is_among (before_of nodes (get_or among i 0)) number)) (so_far number)
    ∙ need-case (has_number first number) (is_before_any nodes (take i among) number) (is_among (before_of nodes (get_or among i 0)) number))

-- ---- the leaves

-- a number is a prerequisite of the node of another
before-names : (seq number : ℕ) (nodes : List NodeFields) → AreAscending nodes → is_among (before_of nodes seq) number ≡ names nodes number seq
before-names seq number [] ascending = refl
before-names seq number (node ∷ nodes) ascending =
    elim (cases_Bool (node.seq == seq)) as (λ _. is_among (before_of (node ∷ nodes) seq) number ≡ names (node ∷ nodes) number seq) [
      | inl here ↦ (let later = names-none number seq nodes
          (subst (λ n. AllByRecursion (λ later. n < later.seq) nodes) (eqb-true node.seq seq here) ascending.0) in
          rw (here, later) (sym (or-false (is_among node.before number))))
      | inr other ↦ rw other (before-names seq number nodes ascending.1)
    ]

among-turned : (among : List ℕ) (seq : ℕ) (c : Bool) → list_any (λ one. seq == one && c) among ≡ (is_among among seq && c)
among-turned among seq c =
    list_any-agree (λ one. seq == one && c) (λ one. one == seq && c) among (All-any among (λ one. ap (λ b. b && c) (eq-swap seq one))) ∙ any-and (λ one. one == seq) c among

needed-same : (nodes : List NodeFields) (among : List ℕ) (number : ℕ) → AreAscending nodes → is_before_any nodes among number ≡ is_needed nodes among number
needed-same nodes among number ascending =
    list_any-agree (λ seq. is_among (before_of nodes seq) number) (λ seq. names nodes number seq) among
    (All-any among (λ seq. before-names seq number nodes ascending))
    ∙ any-swap (λ seq (node : NodeFields). node.seq == seq && is_among node.before number) among nodes
    ∙ list_any-agree (λ node. list_any (λ seq. node.seq == seq && is_among node.before number) among)
    (λ node. is_among among node.seq && is_among node.before number) nodes
    (All-any nodes (λ node. among-turned among node.seq (is_among node.before number)))

leaf-case : (h a m : Bool) → (h && (a && not m)) ≡ ((a && h) && not m)
leaf-case true true m = refl
leaf-case true false m = refl
leaf-case false true m = refl
leaf-case false false m = refl

leaves-have : (nodes : List NodeFields) (among : List ℕ) (number : ℕ) → AreAscending nodes
    → is_among (leaves nodes among) number ≡ ((is_among among number && list_any (λ node. node.seq == number) nodes) && not (is_before_any nodes among number))
leaves-have nodes among number ascending =
    list_any_after (λ one. one == number) (λ (node : NodeFields). node.seq) (filter (λ node. is_leaf nodes among node.seq) nodes)
    ∙ list_any-kept (λ node. node.seq == number) (λ node. is_leaf nodes among node.seq) nodes
    ∙ list_any-agree (λ node. node.seq == number && is_leaf nodes among node.seq) (λ node. node.seq == number && is_leaf nodes among number) nodes
    (All-any nodes (λ node. under (node.seq == number) (is_leaf nodes among node.seq) (is_leaf nodes among number)
    (λ e. ap (is_leaf nodes among) (eqb-true node.seq number e))))
    ∙ any-and (λ node. node.seq == number) (is_leaf nodes among number) nodes
    ∙ leaf-case (list_any (λ node. node.seq == number) nodes) (is_among among number) (is_needed nodes among number)
    ∙ ap (λ b. (is_among among number && list_any (λ node. node.seq == number) nodes) && not b) (sym (needed-same nodes among number ascending))

-- what is left of the nodes given are the leaves
pub leaves-are : (nodes : List NodeFields) (among : List ℕ) (starts left : BTreeSet ℕ) (list : List ℕ) → IsGraph nodes → BeginsAt nodes among starts
    → ((number : ℕ) → has_number left number ≡ (has_number starts number && not (is_before_any nodes among number)))
    → IsListOf left list → list ≡ leaves nodes among
leaves-are nodes among starts left list graph begins dropped is =
    ascending-same list (leaves nodes among) is.ascending
    (AllLater-map (λ one later. one < later) (λ (node : NodeFields). node.seq) (filter (λ node. is_leaf nodes among node.seq) nodes) (λ x y less. less)
    (AllLater-filter (λ one later. one.seq < later.seq) (λ node. is_leaf nodes among node.seq) nodes graph.ascending))
    (λ number. is.each number ∙ dropped number ∙ ap (λ b. b && not (is_before_any nodes among number)) (begins number)
    ∙ sym (leaves-have nodes among number graph.ascending))
