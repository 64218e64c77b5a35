-- Once a node is marked, each that comes right after it has one unmet prerequisite less.
use Rattle.std.proofs.Common.{◌≡◌, ◌≢◌, ℕ, ◌+◌, ◌-◌, ◌==◌, ◌||◌, ◌&&◌, Bool, true, false, not, List, [], ◌∷◌, length, map, filter, refl, sym, ap, subst, ◌∙◌, arith, if◌then◌else◌, inl, inr, suc}
use Rattle.wm_graph.proofs.Tests.{one_if}
use Rattle.std.proofs.lemmas.Bool.{cases_Bool, eqb-true, eqb-false}
use Rattle.std.specs.List.{AllByRecursion}
use Rattle.std.specs.BTreeSet.{BTreeSet}
use Rattle.wm_collections.specs.Lists.{AllLater, is_among}
use Rattle.wm_collections.proofs.Lists.{All-any, All-map, All-unmap, All-with3, map-same, map-twice}
use Rattle.wm_graph.proofs.Found.{names-known}
use Rattle.wm_graph.proofs.Frees.{stays-so, will-be}
use Rattle.wm_graph.proofs.Graphs.{IsGraph-marked}
use Rattle.wm_graph.specs.Edges.{has_edge, names, AreEdgesOf, Edge}
use Rattle.wm_graph.specs.Kept.{changed_at, done, fields_of, lowered, lowered_after, lowered_where, nodes_of, IsCounted, IsKept, Kept}
use Rattle.wm_graph.specs.Marks.{is_met, marked, unmet_of, with_marked}
use Rattle.wm_graph.specs.Nodes.{HasNode, IsGraph, IsNode, NodeFields}

-- ---- how many aren't met

module _ (met will_be : ℕ → Bool) (seq : ℕ) (unmet : met seq ≡ false) (will : will_be seq ≡ true) (stays : (n : ℕ) → (n ≡ seq → ⊥) → will_be n ≡ met n) where
  abbrev left : (ℕ → Bool) → List ℕ → List ℕ
  left test before = filter (λ n. not (test n)) before

  -- where it isn't among them, as many are left
  as-many : (before : List ℕ) → AllByRecursion (λ n. seq ≢ n) before → length (left met before) ≡ length (left will_be before)
  as-many [] others = refl
  as-many (n ∷ before) others =
      let same : will_be n ≡ met n = stays n (λ e. others.0 (sym e)) in
      let rest = as-many before others.1 in
      elim (cases_Bool (met n)) as (λ _. length (left met (n ∷ before)) ≡ length (left will_be (n ∷ before))) [
        | inl is ↦ rw (same, is) rest
        | inr isnt ↦ rw (same, isnt) (ap suc rest)
      ]

  pub one-fewer : (before : List ℕ) → AllLater (λ n later. n ≢ later) before → length (left met before) ≡ length (left will_be before) + one_if (is_among before seq)
  one-fewer [] different = omega arith
  one-fewer (n ∷ before) different =
      elim (cases_Bool (n == seq)) as (λ _. length (left met (n ∷ before)) ≡ length (left will_be (n ∷ before)) + one_if (is_among (n ∷ before) seq)) [
        | inl here ↦
            (let is : n ≡ seq = eqb-true n seq here in
            let others : AllByRecursion (λ later. seq ≢ later) before = subst (λ m. AllByRecursion (λ later. m ≢ later) before) is different.0 in
            let first : met n ≡ false = ap met is ∙ unmet in
            let last : will_be n ≡ true = ap will_be is ∙ will in
            let rest = as-many before others in
            rw (first, last, here) (omega arith))
        | inr other ↦
            (let same : will_be n ≡ met n = stays n (eqb-false n seq other) in
            let rest = one-fewer before different.1 in
            elim (cases_Bool (met n)) as (λ _. length (left met (n ∷ before)) ≡ length (left will_be (n ∷ before)) + one_if (is_among (n ∷ before) seq)) [
              | inl is ↦ rw (same, is, other) rest
              | inr isnt ↦ rw (same, isnt, other) (omega arith)
            ])
      ]

-- ---- an entry

abbrev lowered_if : Bool → ℕ × Kept → ℕ × Kept
lowered_if b entry = if b then (entry.0, lowered entry.1) else entry

abbrev done_here : ℕ → ℕ × Kept → ℕ × Kept
done_here number entry = if entry.0 == number then (entry.0, done entry.1) else entry

fields-then : (b c : Bool) (number : ℕ) (entry : ℕ × Kept) → (entry.0 == number) ≡ c → fields_of (done_here number (lowered_if b entry)) ≡ marked number (fields_of entry)
fields-then true true number entry is = rw is refl
fields-then true false number entry is = rw is refl
fields-then false true number entry is = rw is refl
fields-then false false number entry is = rw is refl

before-then : (b c : Bool) (number : ℕ) (entry : ℕ × Kept) → (entry.0 == number) ≡ c → (done_here number (lowered_if b entry)).1.before ≡ entry.1.before
before-then true true number entry is = rw is refl
before-then true false number entry is = rw is refl
before-then false true number entry is = rw is refl
before-then false false number entry is = rw is refl

unmet-then : (b c : Bool) (number : ℕ) (entry : ℕ × Kept) → (entry.0 == number) ≡ c → (done_here number (lowered_if b entry)).1.unmet ≡ entry.1.unmet - one_if b
unmet-then true true number entry is = rw is refl
unmet-then true false number entry is = rw is refl
unmet-then false true number entry is = rw is (omega arith)
unmet-then false false number entry is = rw is (omega arith)

named-then : (c : Bool) (from to number : ℕ) (node : NodeFields) → (node.seq == number) ≡ c
    → ((marked number node).seq == to && is_among (marked number node).before from) ≡ (node.seq == to && is_among node.before from)
named-then true from to number node is = rw is refl
named-then false from to number node is = rw is refl

names-marked : (from to number : ℕ) (nodes : List NodeFields) → names (with_marked number nodes) from to ≡ names nodes from to
names-marked from to number [] = refl
names-marked from to number (node ∷ nodes) =
    ap (λ b. b || names (with_marked number nodes) from to) (named-then (node.seq == number) from to number node refl)
    ∙ ap (λ b. (node.seq == to && is_among node.before from) || b) (names-marked from to number nodes)

module _ (entries : List (ℕ × Kept)) (edges : BTreeSet Edge) (number : ℕ) (kept : IsKept entries edges) (there : HasNode (nodes_of entries) number)
    (unmarked : is_met (nodes_of entries) number ≡ false) where
  abbrev then_of : ℕ × Kept → ℕ × Kept
  then_of entry = done_here number (lowered_where (has_edge edges number) entry)

  abbrev now : List (ℕ × Kept)
  now = changed_at done number (lowered_after edges number entries)

  now-map : now ≡ map then_of entries
  now-map = map-twice (lowered_where (has_edge edges number)) (done_here number) entries

  pub succeeded-view : nodes_of now ≡ with_marked number (nodes_of entries)
  succeeded-view =
      ap nodes_of now-map ∙ map-twice then_of fields_of entries
      ∙ map-same _ _ entries (All-any entries (λ entry. fields-then (has_edge edges number entry.0) (entry.0 == number) number entry refl))
      ∙ sym (map-twice fields_of (marked number) entries)

  counted : (entry : ℕ × Kept) → IsCounted (nodes_of entries) entry → IsNode (nodes_of entries) (fields_of entry)
      → ((from : ℕ) → names (nodes_of entries) from entry.0 ≡ is_among entry.1.before from) → IsCounted (with_marked number (nodes_of entries)) (then_of entry)
  counted entry count node known =
      let b = has_edge edges number entry.0 in
      let edge : b ≡ is_among entry.1.before number = kept.edges_are number entry.0 ∙ known number in
      let fewer : length (unmet_of (nodes_of entries) entry.1.before) ≡ length (unmet_of (with_marked number (nodes_of entries)) entry.1.before) + one_if (is_among entry.1.before number)
      = one-fewer (is_met (nodes_of entries)) (is_met (with_marked number (nodes_of entries))) number unmarked (will-be number (nodes_of entries) there)
      (λ n apart. stays-so number n (nodes_of entries) apart) entry.1.before node.names.different in
      let lower : entry.1.unmet - one_if b ≡ length (unmet_of (with_marked number (nodes_of entries)) entry.1.before) = rw (edge, count, fewer) (omega arith) in
      unmet-then b (entry.0 == number) number entry refl ∙ lower
      ∙ ap (λ before. length (unmet_of (with_marked number (nodes_of entries)) before)) (sym (before-then b (entry.0 == number) number entry refl))

  edges-then : AreEdgesOf (with_marked number (nodes_of entries)) edges
  edges-then from to = kept.edges_are from to ∙ sym (names-marked from to number (nodes_of entries))

  pub succeeded-kept : IsKept now edges
  succeeded-kept = record {
    graph = subst IsGraph (sym succeeded-view) (IsGraph-marked number (nodes_of entries) kept.graph);
    edges_are = subst (λ nodes. AreEdgesOf nodes edges) (sym succeeded-view) edges-then;
    low = kept.low;
    counts = subst (λ nodes. AllByRecursion (IsCounted nodes) now) (sym succeeded-view)
        (subst (AllByRecursion (IsCounted (with_marked number (nodes_of entries)))) (sym now-map)
        (All-map (IsCounted (with_marked number (nodes_of entries))) then_of entries (λ entry is. is)
        (All-with3 entries counted kept.counts (All-unmap (IsNode (nodes_of entries)) fields_of entries kept.graph.each)
        (All-unmap (λ node. (from : ℕ) → names (nodes_of entries) from node.seq ≡ is_among node.before from) fields_of entries (names-known (nodes_of entries) kept.graph.ascending)))));
  }
