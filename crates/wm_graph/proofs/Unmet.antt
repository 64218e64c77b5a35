-- The prerequisites of a node that aren't marked: how many there are, and when there is one.
use Rattle.std.proofs.Common.{◌≡◌, ℕ, ◌<◌, ◌≤◌, ◌==◌, Bool, true, false, not, ◌||◌, ◌&&◌, eqb, List, [], ◌∷◌, length, find, Option, Some, refl, ap, ◌∙◌, arith}
use Rattle.std.specs.List.{AllByRecursion}
use Rattle.std.specs.Option.{option_map_or}
use Rattle.std.proofs.lemmas.Bool.{cond_both, eqb-true, ne_eqb}
use Rattle.std.proofs.lemmas.Map.Views.{any-filter_same}
use Rattle.wm_collections.specs.Lists.{is_among}
use Rattle.wm_collections.proofs.Lists.{filter-few}
use Rattle.wm_graph.specs.Marks.{before_of, is_just, is_met, unmet, unmet_of}
use Rattle.wm_graph.specs.Nodes.{IsGraph, IsNode, NodeFields}

and_turned : (a b : Bool) → (a && b) ≡ (b && a)
and_turned true true = refl
and_turned true false = refl
and_turned false true = refl
and_turned false false = refl

or_and : (a : Bool) → a ≡ (true && (a || false))
or_and true = refl
or_and false = refl

-- a list is one number alone where it has one element, and that is among it
is_just-counted : (seq : ℕ) (numbers : List ℕ) → is_just seq numbers ≡ ((length numbers == 1) && is_among numbers seq)
is_just-counted seq [] = refl
is_just-counted seq (number ∷ []) = or_and (number == seq)
is_just-counted seq (number ∷ other ∷ numbers) =
    let many : eqb (length (number ∷ other ∷ numbers)) 1 ≡ false = ne_eqb (length (number ∷ other ∷ numbers)) 1 (λ e. omega arith) in
    rw many refl

-- an unmarked prerequisite stays among those that aren't marked
is_among-unmet : (nodes : List NodeFields) (before : List ℕ) (seq : ℕ) → is_met nodes seq ≡ false → is_among (unmet_of nodes before) seq ≡ is_among before seq
is_among-unmet nodes before seq unmarked =
    any-filter_same (λ number. number == seq) (λ number. not (is_met nodes number)) true
    (λ number here. ap (λ n. not (is_met nodes n)) (eqb-true number seq here) ∙ ap not unmarked) before

-- the one unmarked prerequisite is this node where one isn't marked and this node is a prerequisite
pub freed-counted : (nodes : List NodeFields) (before : List ℕ) (seq : ℕ) → is_met nodes seq ≡ false
    → is_just seq (unmet_of nodes before) ≡ (is_among before seq && (length (unmet_of nodes before) == 1))
freed-counted nodes before seq unmarked =
    is_just-counted seq (unmet_of nodes before) ∙ and_turned (length (unmet_of nodes before) == 1) (is_among (unmet_of nodes before) seq)
    ∙ ap (λ among. among && (length (unmet_of nodes before) == 1)) (is_among-unmet nodes before seq unmarked)

-- a node that is found has few prerequisites
few-found : (all nodes : List NodeFields) (seq : ℕ) → AllByRecursion (IsNode all) nodes
    → length (option_map_or (λ (node : NodeFields). node.before) (find (λ node. node.seq == seq) nodes) []) ≤ 100
few-found all [] seq each = omega arith
few-found all (node ∷ nodes) seq each =
    cond_both (node.seq == seq) (Some node) (find (λ n. n.seq == seq) nodes)
    (λ (found : Option NodeFields). length (option_map_or (λ (n : NodeFields). n.before) found []) ≤ 100) (λ e. each.0.few)
    (λ e. few-found all nodes seq each.1)

pub unmet-few : (nodes : List NodeFields) (seq : ℕ) → IsGraph nodes → unmet nodes seq ≤ 100
unmet-few nodes seq graph = omega (arith, filter-few (λ number. not (is_met nodes number)) (before_of nodes seq), few-found nodes nodes seq graph.each)

-- ---- the mark of a node

-- no node after this one has its number
pub met-later : (number : ℕ) (nodes : List NodeFields) → AllByRecursion (λ later. number < later.seq) nodes → is_met nodes number ≡ false
met-later number [] later = refl
met-later number (node ∷ nodes) later =
    let miss = ne_eqb node.seq number (λ e. absurd (omega (arith, later.0))) in
    rw miss (met-later number nodes later.1)
