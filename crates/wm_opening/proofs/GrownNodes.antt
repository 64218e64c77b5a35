-- The nodes of records are added one after another, each after those that it names.
use Rattle.std.proofs.Common.{◌≡◌, ℕ, ◌<◌, ◌≤◌, ◌||◌, false, eqb, List, ◌∷◌, ◌++◌, length, map, sym, ap, ◌∙◌, subst, arith}
use Rattle.std.specs.List.{AllByRecursion}
use Rattle.std.proofs.Math.Bool.{or-false}
use Rattle.std.proofs.lemmas.Bool.{ne_eqb}
use Rattle.std.proofs.lemmas.List.Folds.{list_any-append}
use Rattle.wm_collections.proofs.Lists.{All-back, All-filter, All-map, AllLater-back, AllLater-filter, All-weaker, filter-few, list_any-false}
use Rattle.wm_collections.specs.Lists.{AllLater}
use Rattle.wm_graph.specs.Nodes.{NamesNodes, NodeFields}
use Rattle.wm_machine.proofs.Runnings.{WorksAscend, WorksAscend-in_order}
use Rattle.wm_machine.specs.Valid.{IsBefore, IsRecord}
use Rattle.wm_machine.specs.declared.record.Record.{Record}
use Rattle.wm_rows.proofs.Tags.{All-before}
use Rattle.wm_steps.proofs.Nodes.{nodes-there}
use Rattle.wm_changes.specs.Nodes.{is_there, node_of}

-- a node can be added: its number is the greatest, and it names a few of those that are there
pub record CanBeAdded (nodes : List NodeFields) (node : NodeFields) : Type 0 where
  pub above : AllByRecursion (λ other. other.seq < node.seq) nodes
  pub few : length node.before ≤ 100
  pub names : NamesNodes nodes node.before

-- records of greater numbers than these
greater-none : (number : ℕ) (works : List Record) → AllByRecursion (λ work. number < work.seq) works → is_there works number ≡ false
greater-none number works above =
    list_any-false (λ (work : Record). eqb work.seq number) works
    (All-weaker works (λ work less. ne_eqb work.seq number (λ e. absurd (omega (arith, less, e)))) above)

-- what has a number below that of a record, and is there, stands before it
there-before : (before : List Record) (work : Record) (later : List Record) (number : ℕ) → WorksAscend (work ∷ later) → number < work.seq
    → is_there (before ++ work ∷ later) number ≡ is_there before number
there-before before work later number ascend below =
    let none = greater-none number (work ∷ later) (below, All-weaker later (λ next less. omega (arith, below, less)) ascend.0) in
    list_any-append (λ (w : Record). eqb w.seq number) before (work ∷ later) ∙ ap (λ b. is_there before number || b) none ∙ or-false (is_there before number)

-- the node of a record can be added to those of the records before it
pub added : (works before : List Record) (work : Record) (later : List Record) → before ++ work ∷ later ≡ works → AllLater IsBefore works
    → AllByRecursion IsRecord works → CanBeAdded (map (node_of works) before) (node_of works work)
added works before work later whole in_order records =
    let ascend = subst WorksAscend (sym whole) (WorksAscend-in_order works in_order) in
    let is = (All-back IsRecord before (work ∷ later) (subst (AllByRecursion IsRecord) (sym whole) records)).0 in
    let here = AllLater-back _ before (work ∷ later) ascend in
    record {
      above = All-map _ (node_of works) before (λ other less. less) (All-before _ before work later ascend);
      few = omega (arith, filter-few (is_there works) work.prior, is.prior.few);
      names = record {
        different = AllLater-filter _ (is_there works) work.prior is.prior.different;
        there = All-filter (is_there works) work.prior (λ number there both.
            nodes-there works before number ∙ sym (there-before before work later number here both.1)
            ∙ ap (λ (l : List Record). is_there l number) whole ∙ there) is.prior.earlier;
      };
    }
