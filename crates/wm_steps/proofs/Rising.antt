-- What a work reaches, and what it frees, are works of numbers that rise from its own.
use Rattle.std.proofs.Common.{ℕ, ◌<◌, ◌≤◌, ◌&&◌, Bool, eqb, List, [], ◌∷◌, filter, map, sym, subst, arith}
use Rattle.std.specs.List.{list_all, AllByRecursion}
use Rattle.std.proofs.lemmas.Bool.{and_parts, eqb-true}
use Rattle.wm_collections.proofs.Lists.{All-filter, All-kept, All-map, All-weaker, AllLater-filter, AllLater-map, any_passes, one_gives}
use Rattle.wm_collections.specs.Lists.{is_among, AllLater}
use Rattle.wm_graph.specs.Descendants.{AreDescendants, BeginsWith}
use Rattle.wm_graph.specs.Marks.{freed_by, is_met, with_marked}
use Rattle.wm_graph.specs.Nodes.{NodeFields}
use Rattle.wm_machine.proofs.Runnings.{WorksAscend-in_order}
use Rattle.wm_machine.specs.Valid.{IsBefore, IsRecord}
use Rattle.wm_machine.specs.declared.record.Record.{Record}
use Rattle.wm_changes.specs.Nodes.{is_there, node_of, nodes_of}
use Rattle.wm_graph.specs.Numbers.{RiseFrom}

-- numbers that ascend and begin with one rise from it
begin-rise : (seq : ℕ) (rest : List ℕ) → AllLater (λ number later. number < later) (seq ∷ rest) → RiseFrom seq (seq ∷ rest)
begin-rise seq rest ascend = record {
  ascending = ascend;
  least = (omega arith, All-weaker rest (λ number more. omega arith) ascend.0);
}

pub descendants-rise : (nodes : List NodeFields) (seq : ℕ) (found : List ℕ) → AreDescendants nodes (seq ∷ []) found → BeginsWith seq found → RiseFrom seq found
descendants-rise nodes seq found are begins =
    subst (RiseFrom seq) (sym begins.1) (begin-rise seq begins.0 (subst (AllLater (λ number later. number < later)) begins.1 are.ascending))

-- a node's prerequisites are before it
nodes-earlier : (all works : List Record) → AllByRecursion IsRecord works
    → AllByRecursion (λ (node : NodeFields). AllByRecursion (λ number. number < node.seq) node.before) (map (node_of all) works)
nodes-earlier all works are =
    All-map (λ (node : NodeFields). AllByRecursion (λ number. number < node.seq) node.before) (node_of all) works
    (λ work is. All-kept (λ number. number < work.seq) (is_there all) work.prior
    (All-weaker work.prior (λ number earlier. earlier.1) is.prior.earlier)) are

-- those that a node frees come after it
pub freed-rise : (works : List Record) (seq : ℕ) → AllLater IsBefore works → AllByRecursion IsRecord works → RiseFrom seq (freed_by (nodes_of works) seq)
freed-rise works seq order are =
    let nodes = nodes_of works in
    let test : NodeFields → Bool = λ node. is_among node.before seq && list_all (is_met (with_marked seq nodes)) node.before in
    let ascend : AllLater (λ (node later : NodeFields). node.seq < later.seq) nodes =
    AllLater-map (λ (node later : NodeFields). node.seq < later.seq) (node_of works) works (λ work later less. less) (WorksAscend-in_order works order) in
    record {
      ascending =
          AllLater-map (λ number later. number < later) (λ (node : NodeFields). node.seq) (filter test nodes) (λ node later less. less)
          (AllLater-filter (λ (node later : NodeFields). node.seq < later.seq) test nodes ascend);
      least =
          All-map (λ number. seq ≤ number) (λ (node : NodeFields). node.seq) (filter test nodes) (λ node less. less)
          (All-filter {Q = λ (node : NodeFields). seq ≤ node.seq} test nodes (λ node passes earlier.
          let among = (and_parts (is_among node.before seq) (list_all (is_met (with_marked seq nodes)) node.before) passes).0 in
          let less : seq < node.seq =
          one_gives node.before (λ number less is. subst (λ n. n < node.seq) (eqb-true number seq is) less) earlier
          (any_passes (λ number. eqb number seq) node.before among) in
          omega arith) (nodes-earlier works works are));
    }
