-- A state of works that all wait, and come after none, and the graph of them.
use Rattle.std.proofs.Common.{◌≡◌, ℕ, zero, suc, ◌+◌, ◌^◌, ◌<◌, ◌≤◌, List, [], ◌∷◌, ◌++◌, get_or, length, map, take, refl, sym, ◌∙◌, ap, arith}
use Rattle.std.specs.List.{AllByRecursion}
use Rattle.std.proofs.lemmas.List.{map-append, take_more}
use Rattle.wm_collections.proofs.Lists.{All-weaker, map-same}
use Rattle.wm_collections.proofs.Places.{above-at}
use Rattle.wm_graph.specs.Nodes.{NodeFields}
use Rattle.wm_machine.proofs.Runnings.{WorksAscend}
use Rattle.wm_machine.specs.First.{is_succeeded}
use Rattle.wm_machine.specs.Valid.{Valid}
use Rattle.wm_machine.specs.declared.record.Record.{Record}
use Rattle.wm_changes.specs.Nodes.{node_of, nodes_of}
use Rattle.command_tests.specs.Waiting.{waiting_state, AreWaiting}

pub waiting_valid : (works : List Record) (next : ℕ) → AreWaiting works → length works ≤ 100000 → length works < next → next ≤ 2 ^ 53
    → Valid (waiting_state works next)
waiting_valid works next waiting few above fits = record {
  works = record {
    first = omega (arith, above);
    fits = fits;
    numbers = All-weaker works (λ work up. omega (arith, up, above)) waiting.numbers;
    few = few;
    records = All-weaker works (λ work is. is.within) waiting.each;
    in_order = waiting.in_order;
    sound = All-weaker works (λ work is. rw (is.waits, is.after_none) tt) waiting.each;
  };
  runs = record { running = All-weaker works (λ work is runs. let waits = is.waits in absurd (cc)) waiting.each; each = tt; apart = tt };
  instances = record { few = omega arith; out = tt; numbered = tt };
  few_observers = omega arith;
  now = omega arith;
}

-- ---- the graph

-- the node of a work that comes after none
abbrev pub lone_node : Record → NodeFields
lone_node work = record { seq = work.seq; before = []; done = is_succeeded work.phase }

pub lone_nodes : (works : List Record) → AreWaiting works → map lone_node works ≡ nodes_of works
lone_nodes works waiting =
    map-same lone_node (node_of works) works (All-weaker works (λ work is. rw is.after_none refl) waiting.each)

-- each node before another one has a smaller number
pub lone_below : (works : List Record) (i : ℕ) (work : Record) → WorksAscend works → i < length works → work ≡ get_or works i work
    → AllByRecursion (λ node. node.seq < work.seq) (map lone_node (take i works))
lone_below [] i work ascend within is = absurd (omega arith)
lone_below (first ∷ works) zero work ascend within is = tt
lone_below (first ∷ works) (suc i) work ascend within is =
    let less = above-at (λ (w : Record). w.seq) first.seq works i work ascend.0 (omega arith) in
    let same : work.seq ≡ (get_or works i work).seq = ap (λ (w : Record). w.seq) is in
    (omega (arith, less, same), lone_below works i work ascend.1 (omega arith) is)

-- one work more
pub lone_more : (works : List Record) (i : ℕ) (work : Record) → i < length works → work ≡ get_or works i work
    → map lone_node (take i works) ++ lone_node work ∷ [] ≡ map lone_node (take (i + 1) works)
lone_more works i work within is =
    sym (ap (map lone_node) (take_more works i work within ∙ ap (λ w. take i works ++ w ∷ []) (sym is)) ∙ map-append lone_node (take i works) (work ∷ []))
