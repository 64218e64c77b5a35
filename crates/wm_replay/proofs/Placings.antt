-- The works of a batch that are placed one after another.
use Rattle.std.proofs.Common.{◌≡◌, ℕ, ◌+◌, ◌<◌, List, [], ◌∷◌, ◌++◌, append_assoc, drop, filter, get_or, length, map, take, Option, sym, ◌∙◌, ap}
use Rattle.std.proofs.lemmas.List.{drop_more, flat_map_more, take_more}
use Rattle.std.specs.Str.{bytes_eq}
use Rattle.wm_machine.specs.Enqueued.{new_numbers, new_record, numbers_of, placed_after, prior_of, with_work}
use Rattle.wm_machine.specs.declared.record.Record.{Record}
use Rattle.wm_machine.specs.declared.state.State.{State}
use Rattle.wm_request.specs.declared.request.Node.{Node}

-- those that are left, where one more of them is placed
left-more : (nodes : List Node) (i : ℕ) (node : Node) → i < length nodes → node ≡ get_or nodes i node → drop i nodes ≡ node ∷ drop (i + 1) nodes
left-more nodes i node within is = drop_more nodes i node within ∙ ap (λ n. n ∷ drop (i + 1) nodes) (sym is)

pub placed-more : (s now : State) (name : Option (List ℕ)) (after : List ℕ) (nodes : List Node) (i : ℕ) (node : Node) → i < length nodes
    → node ≡ get_or nodes i node → now ≡ with_work s (new_record s name (prior_of s.works after node.after) node)
    → placed_after now name after (drop (i + 1) nodes) ≡ placed_after s name after (drop i nodes)
placed-more s now name after nodes i node within is made =
    ap (λ (t : State). placed_after t name after (drop (i + 1) nodes)) made ∙ sym (ap (placed_after s name after) (left-more nodes i node within is))

pub numbers-more : (s now : State) (work : Record) (numbers more : List ℕ) (nodes : List Node) (i : ℕ) (node : Node) → i < length nodes
    → node ≡ get_or nodes i node → now ≡ with_work s work → more ≡ numbers ++ s.next ∷ []
    → more ++ new_numbers now.next (drop (i + 1) nodes) ≡ numbers ++ new_numbers s.next (drop i nodes)
numbers-more s now work numbers more nodes i node within is made pushed =
    ap (λ (t : State). more ++ new_numbers t.next (drop (i + 1) nodes)) made
    ∙ ap (λ ns. ns ++ new_numbers (s.next + 1) (drop (i + 1) nodes)) pushed
    ∙ append_assoc numbers (s.next ∷ []) (new_numbers (s.next + 1) (drop (i + 1) nodes))
    ∙ sym (ap (λ left. numbers ++ new_numbers s.next left) (left-more nodes i node within is))

-- the numbers of the records with an id
abbrev pub numbers_with : List Record → List ℕ → List ℕ
numbers_with works id = map (λ (work : Record). work.seq) (filter (λ (work : Record). bytes_eq work.request.id id) works)

-- one id more
pub prior-more : (works : List Record) (ids : List (List ℕ)) (i : ℕ) (id : List ℕ) (numbers more : List ℕ) → i < length ids → id ≡ get_or ids i id
    → more ≡ numbers ++ numbers_with works id → numbers ≡ numbers_of works (take i ids) → more ≡ numbers_of works (take (i + 1) ids)
prior-more works ids i id numbers more within is added so_far =
    added ∙ ap (λ ns. ns ++ numbers_with works id) so_far ∙ flat_map_more (numbers_with works) [] (take i ids) id
    ∙ ap (numbers_of works) (ap (λ x. take i ids ++ x ∷ []) is ∙ sym (take_more ids i id within))
