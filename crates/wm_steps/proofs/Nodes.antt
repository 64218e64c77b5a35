-- The nodes of records: what they reach, and what they free, is what the machine says of the records.
use Rattle.std.proofs.Common.{◌≡◌, ℕ, ◌<◌, ◌&&◌, ◌||◌, Bool, true, false, cond, eqb, List, [], ◌∷◌, filter, map, refl, sym, ◌∙◌, ap, arith, inl, inr}
use Rattle.std.specs.List.{AllByRecursion, list_all, list_any}
use Rattle.std.proofs.lemmas.Bool.{and_from, cases_Bool, cond_both, eq-eqb, eqb-true, false≢true, ne_eqb}
use Rattle.wm_collections.specs.Lists.{AllLater, HasOne, is_among}
use Rattle.wm_data.specs.declared.data.DataEntry.{DataEntry}
use Rattle.wm_machine.specs.declared.record.Phase.{Phase}
use Rattle.wm_machine.specs.declared.record.Record.{Record}
use Rattle.wm_graph.specs.Marks.{freed_by, is_met, with_marked}
use Rattle.wm_graph.specs.Nodes.{HasNode, NodeFields}
use Rattle.wm_machine.proofs.Descendants.{descendant_self}
use Rattle.wm_collections.proofs.Lists.{All-of_one, All-stored, All-weaker, All-with2, HasOne-weaker, filter-each, list_any-false, list_any-one, list_any-stored}
use Rattle.wm_machine.proofs.Runnings.{IsAlone-stored, WorksAscend, WorksAscend-in_order}
use Rattle.wm_machine.specs.Closed.{is_open, is_reached}
use Rattle.wm_machine.specs.Ends.{is_freed, succeeded}
use Rattle.wm_machine.specs.First.{all_met, has_succeeded, is_succeeded, is_waiting}
use Rattle.wm_machine.specs.Runs.{changed_work}
use Rattle.wm_machine.specs.Valid.{ArePriorSound, IsBefore, IsPrerequisite}
use Rattle.wm_machine.specs.declared.record.Phase.TheVariants as phase
use Rattle.wm_changes.specs.Nodes.{is_there, node_of, nodes_of, IsUnmarked}

-- ---- what is there

-- each record is there
pub there-each : (works : List Record) → AllByRecursion (λ work. is_there works work.seq ≡ true) works
there-each works =
    All-weaker works (λ work stored. list_any-stored (λ other. eqb other.seq work.seq) works work stored (eq-eqb work.seq work.seq refl)) (All-stored works)

-- a record that is there has its number
pub HasOne-number : (work : Record) (works : List Record) → HasOne (λ other. other ≡ work) works → HasOne (λ other. other.seq ≡ work.seq) works
HasOne-number work works stored = HasOne-weaker works (λ other is. ap (λ (w : Record). w.seq) is) stored

-- an unfinished work reaches itself
pub itself_reached : (work : Record) (works : List Record) → HasOne (λ other. other ≡ work) works → is_open work.phase ≡ true
    → is_reached work.seq works work ≡ true
unfolding is_reached
itself_reached work works stored unfinished = and_from _ _ unfinished (All-of_one _ works work (descendant_self work.seq works) stored refl)

-- ---- those that are freed

-- what is marked once a node is has succeeded once its work has
head-marked : (b : Bool) (all : List Record) (work : Record) (at : ℕ) (output : List DataEntry) (number : ℕ)
    → (let node = node_of all work in let now = cond b (record node { done = true }) node in eqb now.seq number && now.done)
    ≡ (let now = cond b (succeeded at output work) work in eqb now.seq number && is_succeeded now.phase)
head-marked true all work at output number = refl
head-marked false all work at output number = refl

met-marked : (all works : List Record) (at : ℕ) (output : List DataEntry) (seq number : ℕ)
    → is_met (with_marked seq (map (node_of all) works)) number ≡ has_succeeded (changed_work (succeeded at output) seq works) number
met-marked all [] at output seq number = refl
met-marked all (work ∷ works) at output seq number =
    let rest = met-marked all works at output seq number in
    let now = cond (eqb work.seq seq) (succeeded at output work) work in
    ap (λ b. b || is_met (with_marked seq (map (node_of all) works)) number) (head-marked (eqb work.seq seq) all work at output number)
    ∙ ap (λ b. (eqb now.seq number && is_succeeded now.phase) || b) rest

-- the numbers of the nodes that pass a test
abbrev picked : (NodeFields → Bool) → List Record → List Record → List ℕ
picked test all works = map (λ (node : NodeFields). node.seq) (filter test (map (node_of all) works))

picked_not : (test : NodeFields → Bool) (all : List Record) (number : ℕ) (works : List Record) → AllByRecursion (λ work. number < work.seq) works
    → is_among (picked test all works) number ≡ false
picked_not test all number [] above = refl
picked_not test all number (work ∷ works) above =
    let rest = picked_not test all number works above.1 in
    let miss = ne_eqb work.seq number (λ e. absurd (omega (arith, above.0))) in
    cond_both (test (node_of all work)) (node_of all work ∷ filter test (map (node_of all) works)) (filter test (map (node_of all) works))
    (λ (nodes : List NodeFields). is_among (map (λ (node : NodeFields). node.seq) nodes) number ≡ false) (λ e. rw (miss) rest) (λ e. rest)

-- a record's number is among them where its node passes
picked-each : (test : NodeFields → Bool) (all works : List Record) → WorksAscend works
    → AllByRecursion (λ work. is_among (picked test all works) work.seq ≡ test (node_of all work)) works
picked-each test all [] ascend = tt
picked-each test all (work ∷ works) ascend =
    let rest = picked-each test all works ascend.1 in
    let later = filter test (map (node_of all) works) in
    let hit = eq-eqb work.seq work.seq refl in
    let P : List NodeFields → Type 0 =
    λ nodes. AllByRecursion (λ other. is_among (map (λ (node : NodeFields). node.seq) nodes) other.seq ≡ test (node_of all other)) works in
    let others : P (cond (test (node_of all work)) (node_of all work ∷ later) later) =
    cond_both (test (node_of all work)) (node_of all work ∷ later) later P
    (λ e. All-with2 works (λ other below among. let miss = ne_eqb work.seq other.seq (λ e. absurd (omega (arith, below))) in rw miss among) ascend.0 rest)
    (λ e. rest) in
    let here : is_among (picked test all (work ∷ works)) work.seq ≡ test (node_of all work) =
    cond_both (test (node_of all work)) (node_of all work ∷ later) later
    (λ (nodes : List NodeFields). is_among (map (λ (node : NodeFields). node.seq) nodes) work.seq ≡ test (node_of all work))
    (λ e. rw (hit) (sym e)) (λ e. picked_not test all work.seq works ascend.0 ∙ sym e) in
    (here, others)

list_all-same : {T : Type 0} (test other : T → Bool) (xs : List T) → ((x : T) → test x ≡ other x) → list_all test xs ≡ list_all other xs
list_all-same test other [] same = refl
list_all-same test other (x ∷ xs) same = rw (same x, list_all-same test other xs same) refl

-- a prerequisite that is sound is there
prerequisite-there : (number : ℕ) (works : List Record) → HasOne (IsPrerequisite number) works → is_there works number ≡ true
prerequisite-there number works one =
    list_any-one (λ work. eqb work.seq number) works (HasOne-weaker works (λ work is. eq-eqb work.seq number is.seq) one)

-- all prerequisites of waiting work are there
pub waiting-there : (works : List Record) (p : Phase) (prior : List ℕ) → is_waiting p ≡ true → ArePriorSound works p prior → filter (is_there works) prior ≡ prior
waiting-there works phase.Waiting prior waits sound =
    filter-each (is_there works) prior (All-weaker prior (λ number one. prerequisite-there number works one) sound)
waiting-there works phase.Running prior waits sound = absurd (false≢true waits)
waiting-there works (phase.Done how) prior waits sound = absurd (false≢true waits)

pub and-when : (a x y : Bool) → (a ≡ true → x ≡ y) → (a && x) ≡ (a && y)
and-when true x y same = same refl
and-when false x y same = refl

-- the waiting works that a node frees are those that its work frees
pub freed-nodes : (at seq : ℕ) (output : List DataEntry) (works : List Record) → AllLater IsBefore works
    → AllByRecursion (λ work. ArePriorSound works work.phase work.prior) works
    → AllByRecursion (λ work. (is_waiting work.phase && is_among (freed_by (nodes_of works) seq) work.seq)
    ≡ is_freed seq (changed_work (succeeded at output) seq works) work) works
unfolding all_met
freed-nodes at seq output works order sound =
    let then = changed_work (succeeded at output) seq works in
    let marked = with_marked seq (nodes_of works) in
    let test : NodeFields → Bool = λ node. is_among node.before seq && list_all (is_met marked) node.before in
    All-with2 works (λ work sound among. and-when (is_waiting work.phase) (is_among (picked test works works) work.seq)
    (is_among work.prior seq && all_met then work) (λ waits. among
    ∙ ap (λ prior. is_among prior seq && list_all (is_met marked) prior) (waiting-there works work.phase work.prior waits sound)
    ∙ ap (λ b. is_among work.prior seq && b)
    (list_all-same (is_met marked) (has_succeeded then) work.prior (λ number. met-marked works works at output seq number)))) sound
    (picked-each test works works (WorksAscend-in_order works order))

-- ---- a work that is unfinished

not_succeeded : (p : Phase) → is_open p ≡ true → is_succeeded p ≡ false
not_succeeded phase.Waiting unfinished = refl
not_succeeded phase.Running unfinished = refl
not_succeeded (phase.Done how) unfinished = absurd (false≢true unfinished)

pub open_not_succeeded : (p : Phase) → is_open p ≡ true → is_succeeded p ≡ true → ⊥
open_not_succeeded p unfinished is = false≢true (sym (not_succeeded p unfinished) ∙ is)

-- the nodes have the numbers of the records
pub nodes-there : (all works : List Record) (number : ℕ)
    → list_any (λ (node : NodeFields). eqb node.seq number) (map (node_of all) works) ≡ is_there works number
nodes-there all [] number = refl
nodes-there all (work ∷ works) number = ap (λ b. eqb work.seq number || b) (nodes-there all works number)

-- and those are marked that have succeeded
pub nodes-met : (all works : List Record) (number : ℕ) → is_met (map (node_of all) works) number ≡ has_succeeded works number
nodes-met all [] number = refl
nodes-met all (work ∷ works) number = ap (λ b. (eqb work.seq number && is_succeeded work.phase) || b) (nodes-met all works number)

-- a record that is there has its node
pub node-stored : (work : Record) (works : List Record) → HasOne (λ other. other ≡ work) works → HasNode (nodes_of works) work.seq
node-stored work works stored =
    nodes-there works works work.seq ∙ list_any-stored (λ other. eqb other.seq work.seq) works work stored (eq-eqb work.seq work.seq refl)

-- and where the work is unfinished, the node isn't marked
pub unmarked-open : (work : Record) (works : List Record) → AllLater IsBefore works → HasOne (λ other. other ≡ work) works → is_open work.phase ≡ true
    → IsUnmarked (nodes_of works) work.seq
unmarked-open work works order stored unfinished = record {
  there = node-stored work works stored;
  unmarked =
      nodes-met works works work.seq ∙ list_any-false (λ other. eqb other.seq work.seq && is_succeeded other.phase) works
      (All-weaker works (λ other alone. elim (cases_Bool (eqb other.seq work.seq)) [
        | inl here ↦
            let same = alone (eqb-true other.seq work.seq here) in
            rw here (ap (λ (w : Record). is_succeeded w.phase) same ∙ not_succeeded work.phase unfinished)
        | inr miss ↦ rw miss refl
      ]) (IsAlone-stored work works order stored));
}
