-- Where no prerequisite of a waiting work is unmet among the nodes, each has succeeded among the records.
use Rattle.std.proofs.Common.{◌≡◌, ℕ, ◌&&◌, eqb, List, [], ◌∷◌, filter, length, map, Some, refl, ◌∙◌, ap, arith, inl, inr}
use Rattle.std.specs.List.{list_all, AllByRecursion}
use Rattle.std.proofs.lemmas.Bool.{cases_Bool, ne_eqb}
use Rattle.std.proofs.lemmas.Option.{none-some, same_Some}
use Rattle.wm_collections.proofs.Lists.{All-find, find-stored}
use Rattle.wm_graph.specs.Marks.{before_of, is_met, unmet, unmet_of}
use Rattle.wm_graph.specs.Nodes.{HasNode, NodeFields}
use Rattle.wm_machine.specs.First.{all_met, has_succeeded, is_waiting}
use Rattle.wm_machine.specs.Input.{work_numbered}
use Rattle.wm_machine.specs.Valid.{ArePriorSound}
use Rattle.wm_machine.specs.declared.record.Record.{Record}
use Rattle.wm_steps.proofs.Nodes.{and-when, node-stored, nodes-met, waiting-there}
use Rattle.wm_changes.specs.Nodes.{is_there, node_of, nodes_of}
use Rattle.wm_changes.specs.Readiness.{is_ready_in}

none-unmet : (nodes : List NodeFields) (works : List Record) (numbers : List ℕ) → ((n : ℕ) → is_met nodes n ≡ has_succeeded works n)
    → eqb (length (unmet_of nodes numbers)) 0 ≡ list_all (has_succeeded works) numbers
none-unmet nodes works [] same = refl
none-unmet nodes works (number ∷ numbers) same =
    let rest = none-unmet nodes works numbers same in
    elim (cases_Bool (has_succeeded works number)) as (λ _. eqb (length (unmet_of nodes (number ∷ numbers))) 0 ≡ list_all (has_succeeded works) (number ∷ numbers)) [
      | inl e ↦ (let met = same number ∙ e in rw (met, e) rest)
      | inr e ↦ (let met = same number ∙ e in rw (met, e) (ne_eqb (length (number ∷ unmet_of nodes numbers)) 0 (λ z. absurd (omega arith))))
    ]

before-found : (all works : List Record) (seq : ℕ) (work : Record) → work_numbered seq works ≡ Some work
    → before_of (map (node_of all) works) seq ≡ filter (is_there all) work.prior
before-found all [] seq work is = absurd (none-some work is)
before-found all (first ∷ works) seq work is =
    elim (cases_Bool (eqb first.seq seq)) as (λ _. before_of (map (node_of all) (first ∷ works)) seq ≡ filter (is_there all) work.prior) [
      | inl here ↦ rw here (ap (λ (w : Record). filter (is_there all) w.prior) (same_Some first work (rw here at is)))
      | inr miss ↦ rw miss (before-found all works seq work (rw miss at is))
    ]

-- a work that is there has its node
pub found-node : (works : List Record) (work : Record) → work_numbered work.seq works ≡ Some work → HasNode (nodes_of works) work.seq
found-node works work there = node-stored work works (find-stored (λ (other : Record). eqb other.seq work.seq) works work there)

-- it is ready where it waits and its node has nothing unmet
pub ready-unmet : (works : List Record) (work : Record) → AllByRecursion (λ work. ArePriorSound works work.phase work.prior) works
    → work_numbered work.seq works ≡ Some work → (is_waiting work.phase && eqb (unmet (nodes_of works) work.seq) 0) ≡ is_ready_in works work
unfolding all_met
ready-unmet works work sound there =
    and-when (is_waiting work.phase) (eqb (unmet (nodes_of works) work.seq) 0) (list_all (has_succeeded works) work.prior) (λ waits.
    let prior = All-find (λ (other : Record). ArePriorSound works other.phase other.prior) (λ (other : Record). eqb other.seq work.seq) works work there sound in
    ap (λ (before : List ℕ). eqb (length (unmet_of (nodes_of works) before)) 0)
    (before-found works works work.seq work there ∙ waiting-there works work.phase work.prior waits prior)
    ∙ none-unmet (nodes_of works) works work.prior (nodes-met works works))
