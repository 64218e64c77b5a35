-- A node that is added at the end, and edges that are taken back.
use Rattle.std.proofs.Common.{◌≡◌, ℕ, ◌<◌, ◌≤◌, ◌==◌, ◌||◌, ◌&&◌, false, not, List, [], ◌∷◌, ◌++◌, length, refl, sym, ap, subst, ◌∙◌, arith, inl, inr, Result, Ok, Err, OnOk}
use Rattle.std.proofs.Math.Bool.{or-false}
use Rattle.wm_graph.proofs.Tests.{both-is, both-not, eq-swap}
use Rattle.std.specs.Result.{is_err}
use Rattle.std.proofs.lemmas.Bool.{and_parts, cases_Bool, eqb-true, ne_eqb, or_cases}
use Rattle.std.proofs.lemmas.Bool.Decides.{nat_tests}
use Rattle.std.proofs.lemmas.List.{map-append}
use Rattle.std.proofs.lemmas.List.Folds.{list_any-append}
use Rattle.std.specs.List.{AllByRecursion}
use Rattle.std.specs.Ordering.{nat_cmp}
use Rattle.std.specs.declared.cmp.Ordering.TheVariants.{Greater}
use Rattle.std.specs.BTreeMap.{insert_entry}
use Rattle.std.specs.BTreeSet.{BTreeSet}
use Rattle.wm_collections.specs.Lists.{is_among}
use Rattle.wm_collections.proofs.Lists.{All-back, All-push, All-unmap, All-weaker, All-with3, filter-same, list_any-false}
use Rattle.wm_graph.proofs.Graphs.{IsGraph-push, less-trans}
use Rattle.wm_graph.specs.Added.{with_entry}
use Rattle.wm_graph.specs.Edges.{has_edge, is_new, names, AreEdgesOf, AreJoined, AreParted, Edge, KeepsOthers}
use Rattle.wm_graph.specs.Kept.{fields_of, nodes_of, IsCounted, IsKept, Kept}
use Rattle.wm_graph.specs.Marks.{is_met, unmet_of}
use Rattle.wm_graph.specs.Nodes.{IsGraph, IsNode, NamesNodes, NodeFields}

-- ---- the last entry

is-greater : (number other : ℕ) → other < number → nat_cmp number other ≡ Greater
is-greater number other less = grind (arith, nat_tests)

pub insert-last : (entries : List (ℕ × Kept)) (seq : ℕ) (node : Kept) → AllByRecursion (λ node. node.seq < seq) (nodes_of entries)
    → insert_entry nat_cmp entries seq node ≡ with_entry seq node entries
insert-last [] seq node above = refl
insert-last (entry ∷ entries) seq node above = rw (is-greater seq entry.0 above.0) (ap (λ rest. entry ∷ rest) (insert-last entries seq node above.1))

-- ---- what holds on Ok

pub ok_given : {A E : Type 0} (r : Result A E) (P : Type 0) → OnOk r P → is_err r ≡ false → P
ok_given (Ok x) P given not_err = given
ok_given (Err e) P given not_err = absurd cc

-- ---- a number above all others

pub names-above : (nodes : List NodeFields) (seq from : ℕ) → AllByRecursion (λ node. node.seq < seq) nodes → names nodes from seq ≡ false
names-above nodes seq from above =
    list_any-false (λ node. node.seq == seq && is_among node.before from) nodes
    (All-weaker nodes (λ node less. let other : (node.seq == seq) ≡ false = ne_eqb node.seq seq (λ e. absurd (omega (arith, less, e))) in rw other refl) above)

-- ---- what a node at the end leaves unmet of smaller numbers

met-front : (nodes : List NodeFields) (last : NodeFields) (n : ℕ) → n < last.seq → is_met (nodes ++ last ∷ []) n ≡ is_met nodes n
met-front nodes last n less =
    let other : (last.seq == n) ≡ false = ne_eqb last.seq n (λ e. absurd (omega (arith, less, e))) in
    list_any-append (λ node. node.seq == n && node.done) nodes (last ∷ []) ∙ rw other (or-false (is_met nodes n))

pub unmet-front : (nodes : List NodeFields) (last : NodeFields) (numbers : List ℕ) → AllByRecursion (λ n. n < last.seq) numbers
    → unmet_of (nodes ++ last ∷ []) numbers ≡ unmet_of nodes numbers
unmet-front nodes last numbers below =
    filter-same (λ n. not (is_met (nodes ++ last ∷ []) n)) (λ n. not (is_met nodes n)) numbers (All-weaker numbers (λ n less. ap not (met-front nodes last n less)) below)

pub earlier-than : (seq : ℕ) (nodes : List NodeFields) (node : NodeFields) → IsNode nodes node → node.seq < seq → AllByRecursion (λ n. n < seq) node.before
earlier-than seq nodes node is less = All-weaker node.before (λ n below. less-trans n node.seq seq below less) is.earlier

module _ (entries : List (ℕ × Kept)) (old : BTreeSet Edge) (seq : ℕ) (before : List ℕ) (kept : IsKept entries old)
    (above : AllByRecursion (λ node. node.seq < seq) (nodes_of entries)) where
  undone-edges : (mid new : BTreeSet Edge) → KeepsOthers before seq old mid → AreParted before seq mid new → AreEdgesOf (nodes_of entries) new
  undone-edges mid new others parted from to =
      elim (cases_Bool (is_new before seq from to)) as (λ _. has_edge new from to ≡ names (nodes_of entries) from to) [
        | inl is ↦ parted from to ∙ both-not (is_new before seq from to) (has_edge mid from to) is
            ∙ sym (subst (λ n. names (nodes_of entries) from n ≡ false) (sym (eqb-true to seq (and_parts _ _ is).0)) (names-above (nodes_of entries) seq from above))
        | inr isnt ↦ parted from to ∙ both-is (is_new before seq from to) (has_edge mid from to) isnt ∙ others from to isnt ∙ kept.edges_are from to
      ]

  -- the edges that were added are taken back
  pub undone : (mid new : BTreeSet Edge) → KeepsOthers before seq old mid → AreParted before seq mid new → IsKept entries new
  undone mid new others parted =
      let edges = undone-edges mid new others parted in
      record {
        graph = kept.graph;
        edges_are = edges;
        low = λ from to has. kept.low from to (kept.edges_are from to ∙ sym (edges from to) ∙ has);
        counts = kept.counts;
      }

  module _ (node : Kept) (new : BTreeSet Edge) (fits : seq ≤ 18446744073709551615) (few : length node.before ≤ 100) (named : NamesNodes (nodes_of entries) node.before)
      (joined : AreJoined node.before seq old new) (count : node.unmet ≡ length (unmet_of (nodes_of entries) node.before)) where
    abbrev last : NodeFields
    last = fields_of (seq, node)

    abbrev all : List NodeFields
    all = nodes_of entries ++ last ∷ []

    nodes-are : nodes_of (with_entry seq node entries) ≡ all
    nodes-are = rw map-append refl

    still-unmet : (numbers : List ℕ) → AllByRecursion (λ n. n < seq) numbers → unmet_of all numbers ≡ unmet_of (nodes_of entries) numbers
    still-unmet numbers below = unmet-front (nodes_of entries) last numbers below

    counted-old : (entry : ℕ × Kept) → IsCounted (nodes_of entries) entry → IsNode (nodes_of entries) (fields_of entry) → entry.0 < seq → IsCounted all entry
    counted-old entry is node_is less = is ∙ ap length (sym (still-unmet entry.1.before (earlier-than seq (nodes_of entries) (fields_of entry) node_is less)))

    graph-is : IsGraph all
    graph-is = IsGraph-push (nodes_of entries) last kept.graph above few named

    last-node : IsNode all last
    last-node = (All-back (IsNode all) (nodes_of entries) (last ∷ []) graph-is.each).0

    last-edge : (from to : ℕ) → (names (nodes_of entries) from to || ((seq == to && is_among node.before from) || false)) ≡ (names (nodes_of entries) from to || is_new node.before seq from to)
    last-edge from to = ap (λ b. names (nodes_of entries) from to || b) (or-false (seq == to && is_among node.before from) ∙ ap (λ b. b && is_among node.before from) (eq-swap seq to))

    edges-are : AreEdgesOf all new
    edges-are from to =
        joined from to ∙ ap (λ b. b || is_new node.before seq from to) (kept.edges_are from to)
        ∙ sym (list_any-append (λ n. n.seq == to && is_among n.before from) (nodes_of entries) (last ∷ []) ∙ last-edge from to)

    pub added-kept : IsKept (with_entry seq node entries) new
    added-kept = record {
      graph = subst IsGraph (sym nodes-are) graph-is;
      edges_are = subst (λ nodes. AreEdgesOf nodes new) (sym nodes-are) edges-are;
      low = λ from to has. elim (or_cases (has_edge old from to) (is_new node.before seq from to) (sym (joined from to) ∙ has)) as (λ _. to ≤ 18446744073709551615) [
        | inl there ↦ kept.low from to there
        | inr is ↦ subst (λ n. n ≤ 18446744073709551615) (sym (eqb-true to seq (and_parts _ _ is).0)) fits
      ];
      counts = subst (λ nodes. AllByRecursion (IsCounted nodes) (with_entry seq node entries)) (sym nodes-are)
          (All-push (IsCounted all) entries (seq, node)
          (All-with3 entries counted-old kept.counts (All-unmap (IsNode (nodes_of entries)) fields_of entries kept.graph.each) (All-unmap (λ n. n.seq < seq) fields_of entries above))
          (count ∙ ap length (sym (still-unmet node.before last-node.earlier))));
    }
