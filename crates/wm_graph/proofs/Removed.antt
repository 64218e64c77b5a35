-- A node taken away, with its edges.
use Rattle.std.proofs.Common.{◌≡◌, ◌≢◌, ℕ, ◌+◌, ◌-◌, ◌<◌, ◌==◌, ◌&&◌, Bool, true, false, not, List, [], ◌∷◌, length, filter, map, refl, sym, ap, subst, ◌∙◌, arith, suc, inl, inr, Some, None}
use Rattle.std.proofs.Math.Bool.{or-false}
use Rattle.std.proofs.lemmas.Bool.{and_parts, cases_Bool, eqb-false, eqb-true, ne_eqb}
use Rattle.std.proofs.lemmas.Map.Views.{any-filter_same}
use Rattle.std.specs.BTreeMap.{is_at}
use Rattle.std.specs.BTreeSet.{BTreeSet}
use Rattle.std.specs.List.{AllByRecursion}
use Rattle.std.specs.Map.{lookup, remove_entry}
use Rattle.std.specs.Ordering.{nat_cmp}
use Rattle.wm_collections.specs.Lists.{AllLater, is_among}
use Rattle.wm_collections.proofs.Lists.{All-any, All-kept, All-map, All-unmap, All-weaker, All-with3, AllLater-map, filter-each, list_any-agree, list_any-kept, list_any_after, map-filter, map-same, map-twice, none_pass}
use Rattle.wm_graph.proofs.Found.{names-known}
use Rattle.wm_graph.proofs.Graphs.{HasNode-map, IsGraph-without}
use Rattle.wm_graph.proofs.Starts.{absent}
use Rattle.wm_graph.proofs.Tests.{any-and, one_if, same-test, under}
use Rattle.wm_graph.specs.Edges.{has_edge, is_new, names, AreEdgesOf, AreParted, Edge, IsCutFrom}
use Rattle.wm_graph.specs.Kept.{changed_where, fields_of, forgotten, forgotten_after, nodes_of, IsCounted, IsKept, Kept}
use Rattle.wm_graph.specs.Marks.{is_met, unmet_of}
use Rattle.wm_graph.specs.Nodes.{AreAscending, forgetting, HasNode, IsGraph, IsNode, NodeFields, without}

-- ---- the entry of a number, in ascending order

module _ (number : ℕ) where
  abbrev others : ℕ × Kept → Bool
  others entry = not (entry.0 == number)

  later-others : (entries : List (ℕ × Kept)) → AllByRecursion (λ later. number < later.seq) (nodes_of entries) → filter others entries ≡ entries
  later-others entries above =
      filter-each others entries (All-weaker entries (λ entry less. ap not (ne_eqb entry.0 number (λ e. absurd (omega (arith, less, e)))))
      (All-unmap (λ later. number < later.seq) fields_of entries above))

  pub removed-is : (entries : List (ℕ × Kept)) → AreAscending (nodes_of entries) → remove_entry (is_at (nat_cmp number)) entries ≡ filter others entries
  removed-is [] ascending = refl
  removed-is (entry ∷ entries) ascending =
      elim (cases_Bool (entry.0 == number)) as (λ _. remove_entry (is_at (nat_cmp number)) (entry ∷ entries) ≡ filter others (entry ∷ entries)) [
        | inl here ↦ rw (same-test number entry.0, here) (sym (later-others entries
            (subst (λ n. AllByRecursion (λ later. n < later.seq) (nodes_of entries)) (eqb-true entry.0 number here) ascending.0)))
        | inr other ↦ rw (same-test number entry.0, other) (ap (λ rest. entry ∷ rest) (removed-is entries ascending.1))
      ]

  none-later : (from : ℕ) (entries : List (ℕ × Kept)) → AllByRecursion (λ later. number < later.seq) (nodes_of entries) → names (nodes_of entries) from number ≡ false
  none-later from [] above = refl
  none-later from (entry ∷ entries) above =
      let apart : (entry.0 == number) ≡ false = ne_eqb entry.0 number (λ e. absurd (omega (arith, above.0, e))) in
      rw apart (none-later from entries above.1)

  -- what is kept of the node of this number has its prerequisites
  pub found-names : (kept : Kept) (from : ℕ) (entries : List (ℕ × Kept)) → AreAscending (nodes_of entries) → lookup (is_at (nat_cmp number)) entries ≡ Some kept
      → names (nodes_of entries) from number ≡ is_among kept.before from
  found-names kept from [] ascending found = absurd cc
  found-names kept from (entry ∷ entries) ascending found =
      elim (cases_Bool (entry.0 == number)) as (λ _. names (nodes_of (entry ∷ entries)) from number ≡ is_among kept.before from) [
        | inl here ↦
            (let first : Some entry.1 ≡ Some kept = rw (same-test number entry.0, here) at found in
            let is : entry.1 ≡ kept = cc in
            let later = none-later from entries (subst (λ n. AllByRecursion (λ later. n < later.seq) (nodes_of entries)) (eqb-true entry.0 number here) ascending.0) in
            rw (here, later) (or-false (is_among entry.1.before from) ∙ ap (λ kept. is_among kept.before from) is))
        | inr other ↦
            (let rest : lookup (is_at (nat_cmp number)) entries ≡ Some kept = rw (same-test number entry.0, other) at found in
            rw other (found-names kept from entries ascending.1 rest))
      ]

-- ---- how many prerequisites aren't met

module _ (met later : ℕ → Bool) (seq : ℕ) (stays : (n : ℕ) → (n ≡ seq → ⊥) → later n ≡ met n) where
  abbrev left : (ℕ → Bool) → List ℕ → List ℕ
  left test before = filter (λ n. not (test n)) before

  abbrev other : ℕ → Bool
  other n = not (n == seq)

  -- those that aren't this number stay
  as-many : (before : List ℕ) → AllByRecursion (λ n. seq ≢ n) before → length (left met before) ≡ length (left later (filter other before))
  as-many [] others = refl
  as-many (n ∷ before) others =
      let same : later n ≡ met n = stays n (λ e. others.0 (sym e)) in
      let apart : (n == seq) ≡ false = ne_eqb n seq (λ e. others.0 (sym e)) in
      let rest = as-many before others.1 in
      elim (cases_Bool (met n)) as (λ _. length (left met (n ∷ before)) ≡ length (left later (filter other (n ∷ before)))) [
        | inl is ↦ rw (apart, same, is) rest
        | inr isnt ↦ rw (apart, same, isnt) (ap suc rest)
      ]

  -- one fewer is left where this number is among them, and isn't met
  pub fewer-left : (before : List ℕ) → AllLater (λ n later. n ≢ later) before
      → length (left met before) ≡ length (left later (filter other before)) + one_if (is_among before seq && not (met seq))
  fewer-left [] different = omega arith
  fewer-left (n ∷ before) different =
      elim (cases_Bool (n == seq)) as (λ _. length (left met (n ∷ before))
      ≡ length (left later (filter other (n ∷ before))) + one_if (is_among (n ∷ before) seq && not (met seq))) [
        | inl here ↦
            (let is : n ≡ seq = eqb-true n seq here in
            let rest = as-many before (subst (λ m. AllByRecursion (λ later. m ≢ later) before) is different.0) in
            elim (cases_Bool (met seq)) as (λ _. length (left met (n ∷ before))
            ≡ length (left later (filter other (n ∷ before))) + one_if (is_among (n ∷ before) seq && not (met seq))) [
              | inl done ↦ (let first : met n ≡ true = ap met is ∙ done in rw (here, first, done) (rest ∙ omega arith))
              | inr open_still ↦ (let first : met n ≡ false = ap met is ∙ open_still in rw (here, first, open_still) (ap suc rest ∙ omega arith))
            ])
        | inr apart ↦
            (let same : later n ≡ met n = stays n (eqb-false n seq apart) in
            let rest = fewer-left before different.1 in
            elim (cases_Bool (met n)) as (λ _. length (left met (n ∷ before))
            ≡ length (left later (filter other (n ∷ before))) + one_if (is_among (n ∷ before) seq && not (met seq))) [
              | inl is ↦ rw (apart, same, is) rest
              | inr isnt ↦ rw (apart, same, isnt) (omega (arith, rest))
            ])
      ]

-- ---- what the others keep

met-without : (seq : ℕ) (nodes : List NodeFields) (n : ℕ) → (n ≡ seq → ⊥) → is_met (without seq nodes) n ≡ is_met nodes n
met-without seq nodes n apart =
    list_any_after (λ node. node.seq == n && node.done) (forgetting seq) (filter (λ node. not (node.seq == seq)) nodes)
    ∙ any-filter_same (λ node. node.seq == n && node.done) (λ node. not (node.seq == seq)) true
    (λ node here. ap not (ne_eqb node.seq seq (λ e. apart (sym (eqb-true node.seq n (and_parts (node.seq == n) node.done here).0) ∙ e)))) nodes

among-others : (seq from : ℕ) (before : List ℕ) → is_among (filter (λ number. not (number == seq)) before) from ≡ (is_among before from && not (from == seq))
among-others seq from before =
    list_any-kept (λ one. one == from) (λ number. not (number == seq)) before
    ∙ list_any-agree (λ one. one == from && not (one == seq)) (λ one. one == from && not (from == seq)) before
    (All-any before (λ one. under (one == from) (not (one == seq)) (not (from == seq)) (λ e. ap (λ n. not (n == seq)) (eqb-true one from e))))
    ∙ any-and (λ one. one == from) (not (from == seq)) before

and-assoc : (a b c : Bool) → (a && (b && c)) ≡ ((a && b) && c)
and-assoc true b c = refl
and-assoc false b c = refl

name-case : (t a p q c : Bool) → (t ≡ true → c ≡ q) → ((t && (a && p)) && not c) ≡ ((t && a) && (p && not q))
name-case false a p q c same = refl
name-case true false p q c same = refl
name-case true true p q c same = rw (same refl) refl

names-without : (seq : ℕ) (nodes : List NodeFields) (from to : ℕ)
    → names (without seq nodes) from to ≡ (names nodes from to && (not (from == seq) && not (to == seq)))
names-without seq nodes from to =
    list_any_after (λ node. node.seq == to && is_among node.before from) (forgetting seq) (filter (λ node. not (node.seq == seq)) nodes)
    ∙ list_any-kept (λ node. node.seq == to && is_among (filter (λ number. not (number == seq)) node.before) from) (λ node. not (node.seq == seq)) nodes
    ∙ list_any-agree (λ node. (node.seq == to && is_among (filter (λ number. not (number == seq)) node.before) from) && not (node.seq == seq))
    (λ node. (node.seq == to && is_among node.before from) && (not (from == seq) && not (to == seq))) nodes
    (All-any nodes (λ node. ap (λ b. (node.seq == to && b) && not (node.seq == seq)) (among-others seq from node.before)
    ∙ name-case (node.seq == to) (is_among node.before from) (not (from == seq)) (to == seq) (node.seq == seq) (λ e. ap (λ n. n == seq) (eqb-true node.seq to e))))
    ∙ any-and (λ node. node.seq == to && is_among node.before from) (not (from == seq) && not (to == seq)) nodes

names-forgotten : (seq : ℕ) (nodes : List NodeFields) (from to : ℕ) → names (map (forgetting seq) nodes) from to ≡ (names nodes from to && not (from == seq))
names-forgotten seq nodes from to =
    list_any_after (λ node. node.seq == to && is_among node.before from) (forgetting seq) nodes
    ∙ list_any-agree (λ node. node.seq == to && is_among (filter (λ number. not (number == seq)) node.before) from)
    (λ node. (node.seq == to && is_among node.before from) && not (from == seq)) nodes
    (All-any nodes (λ node. ap (λ b. node.seq == to && b) (among-others seq from node.before)
    ∙ and-assoc (node.seq == to) (is_among node.before from) (not (from == seq))))
    ∙ any-and (λ node. node.seq == to && is_among node.before from) (not (from == seq)) nodes

edge-case : (x f t a : Bool) → (t ≡ true → a ≡ (x && not f)) → ((x && not f) && not (t && a)) ≡ (x && (not f && not t))
edge-case false f t a is = refl
edge-case true true t a is = refl
edge-case true false false a is = refl
edge-case true false true a is = rw (is refl) refl

-- ---- the node itself

module _ (entries : List (ℕ × Kept)) (old : BTreeSet Edge) (seq : ℕ) (was_done : Bool) (kept : IsKept entries old) where
  abbrev nodes : List NodeFields
  nodes = nodes_of entries

  abbrev change : ℕ × Kept → ℕ × Kept
  change entry = changed_where (forgotten seq was_done) (has_edge old seq) entry

  abbrev halfway : List (ℕ × Kept)
  halfway = forgotten_after old seq was_done entries

  known : AllByRecursion (λ (entry : ℕ × Kept). (from : ℕ) → names nodes from entry.0 ≡ is_among entry.1.before from) entries
  known = All-unmap (λ node. (from : ℕ) → names nodes from node.seq ≡ is_among node.before from) fields_of entries (names-known nodes kept.graph.ascending)

  keeps-all : (before : List ℕ) → is_among before seq ≡ false → filter (λ number. not (number == seq)) before ≡ before
  keeps-all before none = filter-each (λ number. not (number == seq)) before (All-weaker before (λ n apart. ap not apart) (none_pass (λ n. n == seq) before none))

  edge-is : (entry : ℕ × Kept) → ((from : ℕ) → names nodes from entry.0 ≡ is_among entry.1.before from) → has_edge old seq entry.0 ≡ is_among entry.1.before seq
  edge-is entry named = kept.edges_are seq entry.0 ∙ named seq

  forgets : (entry : ℕ × Kept) → ((from : ℕ) → names nodes from entry.0 ≡ is_among entry.1.before from) → fields_of (change entry) ≡ forgetting seq (fields_of entry)
  forgets entry named =
      elim (cases_Bool (has_edge old seq entry.0)) as (λ _. fields_of (change entry) ≡ forgetting seq (fields_of entry)) [
        | inl is ↦ rw is refl
        | inr isnt ↦ rw isnt (ap (λ before. record (fields_of entry) { before = before }) (sym (keeps-all entry.1.before (sym (edge-is entry named) ∙ isnt))))
      ]

  halfway-view : nodes_of halfway ≡ map (forgetting seq) nodes
  halfway-view = map-twice change fields_of entries ∙ map-same _ _ entries (All-weaker entries forgets known) ∙ sym (map-twice fields_of (forgetting seq) entries)

  ascends : AreAscending (nodes_of halfway)
  ascends =
      subst AreAscending (sym halfway-view)
      (AllLater-map (λ one later. one.seq < later.seq) (forgetting seq) nodes (λ one later less. less) kept.graph.ascending)

  -- the node is still there
  pub still-there : HasNode nodes seq → lookup (is_at (nat_cmp seq)) halfway ≡ None → ⊥
  still-there there none = absent halfway seq none (subst (λ list. HasNode list seq) (sym halfway-view) (HasNode-map (forgetting seq) (λ node. refl) nodes seq there))

  module _ (mid new : BTreeSet Edge) (node : Kept) (done_is : was_done ≡ is_met nodes seq) (cut : IsCutFrom seq old mid)
      (found : lookup (is_at (nat_cmp seq)) halfway ≡ Some node) (parted : AreParted node.before seq mid new) where
    abbrev now : List (ℕ × Kept)
    now = remove_entry (is_at (nat_cmp seq)) halfway

    now-is : now ≡ filter (others seq) halfway
    now-is = removed-is seq halfway ascends

    pub removed-view : nodes_of now ≡ without seq nodes
    removed-view =
        ap nodes_of now-is ∙ map-filter fields_of (λ node. not (node.seq == seq)) halfway
        ∙ ap (filter (λ node. not (node.seq == seq))) halfway-view ∙ sym (map-filter (forgetting seq) (λ node. not (node.seq == seq)) nodes)

    named-before : (from : ℕ) → is_among node.before from ≡ (names nodes from seq && not (from == seq))
    named-before from =
        sym (found-names seq node from halfway ascends found) ∙ ap (λ list. names list from seq) halfway-view ∙ names-forgotten seq nodes from seq

    edges-are : AreEdgesOf (without seq nodes) new
    edges-are from to =
        parted from to ∙ ap (λ b. b && not (is_new node.before seq from to)) (cut from to ∙ ap (λ b. b && not (from == seq)) (kept.edges_are from to))
        ∙ edge-case (names nodes from to) (from == seq) (to == seq) (is_among node.before from)
        (λ here. named-before from ∙ ap (λ n. names nodes from n && not (from == seq)) (sym (eqb-true to seq here)))
        ∙ sym (names-without seq nodes from to)

    counted : (entry : ℕ × Kept) → IsCounted nodes entry → IsNode nodes (fields_of entry)
        → ((from : ℕ) → names nodes from entry.0 ≡ is_among entry.1.before from) → IsCounted (without seq nodes) (change entry)
    counted entry count is named =
        let few = fewer-left (is_met nodes) (is_met (without seq nodes)) seq (met-without seq nodes) entry.1.before is.names.different in
        let total : entry.1.unmet ≡ length (unmet_of (without seq nodes) (filter (λ number. not (number == seq)) entry.1.before))
        + one_if (is_among entry.1.before seq && not (is_met nodes seq)) = count ∙ few in
        elim (cases_Bool (has_edge old seq entry.0)) as (λ _. IsCounted (without seq nodes) (change entry)) [
          | inl there ↦
              (let among : is_among entry.1.before seq ≡ true = sym (edge-is entry named) ∙ there in
              elim (cases_Bool (is_met nodes seq)) as (λ _. IsCounted (without seq nodes) (change entry)) [
                | inl met ↦ (let done : was_done ≡ true = done_is ∙ met in
                    let sum = rw (among, met) at total in rw (there, done) (sum ∙ omega arith))
                | inr open_still ↦ (let undone : was_done ≡ false = done_is ∙ open_still in
                    let sum = rw (among, open_still) at total in rw (there, undone) (ap (λ n. n - 1) sum ∙ omega arith))
              ])
          | inr absent ↦
              (let none : is_among entry.1.before seq ≡ false = sym (edge-is entry named) ∙ absent in
              let sum = rw (none, keeps-all entry.1.before none) at total in rw absent (sum ∙ omega arith))
        ]

    counts : AllByRecursion (IsCounted (without seq nodes)) now
    counts =
        subst (AllByRecursion (IsCounted (without seq nodes))) (sym now-is)
        (All-kept (IsCounted (without seq nodes)) (others seq) halfway
        (All-map (IsCounted (without seq nodes)) change entries (λ entry is. is)
        (All-with3 entries counted kept.counts (All-unmap (IsNode nodes) fields_of entries kept.graph.each) known)))

    pub removed-kept : IsKept now new
    removed-kept = record {
      graph = subst IsGraph (sym removed-view) (IsGraph-without seq nodes kept.graph);
      edges_are = subst (λ nodes. AreEdgesOf nodes new) (sym removed-view) edges-are;
      low = λ from to has. kept.low from to
          (and_parts (has_edge old from to) (not (from == seq))
          (sym (cut from to) ∙ (and_parts (has_edge mid from to) (not (is_new node.before seq from to)) (sym (parted from to) ∙ has)).0)).0;
      counts = subst (λ nodes. AllByRecursion (IsCounted nodes) now) (sym removed-view) counts;
    }
