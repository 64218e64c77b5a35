-- What the nodes of records reach is what the machine says of the records.
use Rattle.std.proofs.Common.{◌≡◌, ℕ, ◌&&◌, ◌||◌, Bool, true, false, cond, eqb, if◌then◌else◌, List, [], ◌∷◌, ◌++◌, filter, map, refl, sym, ◌∙◌, ap, subst, inl, inr}
use Rattle.std.specs.List.{AllByRecursion, list_any}
use Rattle.std.specs.Prelude.{reverse}
use Rattle.std.proofs.lemmas.Bool.{cond_both, eqb-true, false≢true, or_cases}
use Rattle.std.proofs.lemmas.List.{map-append, reverse-append}
use Rattle.std.proofs.lemmas.Map.Views.{any-filter_same}
use Rattle.wm_collections.specs.Lists.{is_among}
use Rattle.wm_collections.proofs.Lists.{All-any, All-reverse, list_any-agree, list_any-reverse}
use Rattle.wm_graph.specs.Descendants as graph
use Rattle.wm_graph.specs.Nodes.{NodeFields}
use Rattle.wm_machine.specs.Closed.{descendants, is_open, is_reached}
use Rattle.wm_machine.specs.declared.record.Record.{Record}
use Rattle.wm_steps.proofs.Nodes.{there-each}
use Rattle.wm_graph.proofs.Tests.{any-and, eq-swap}
use Rattle.wm_steps.proofs.Tests.{any-or, any-swap, any-under, none-any}
use Rattle.wm_changes.specs.Nodes.{is_there, node_of, nodes_of, reached_from}

-- ---- what any of several works reaches

among-cond : (b : Bool) (one : ℕ) (numbers : List ℕ) (number : ℕ)
    → is_among (cond b (one ∷ numbers) numbers) number ≡ ((b && eqb one number) || is_among numbers number)
among-cond true one numbers number = refl
among-cond false one numbers number = refl

-- the numbers of the descendants of any of these works, among records in descending number
abbrev descendants_of_any : List ℕ → List Record → List ℕ
descendants_of_any seqs [] = []
descendants_of_any seqs (work ∷ earlier) =
    if is_among seqs work.seq || list_any (is_among (descendants_of_any seqs earlier)) work.prior then work.seq ∷ descendants_of_any seqs earlier
    else descendants_of_any seqs earlier

-- they are those of each
any_descendant : (seqs : List ℕ) (works : List Record) (number : ℕ)
    → is_among (descendants_of_any seqs works) number ≡ list_any (λ seq. is_among (descendants seq works) number) seqs
any_descendant seqs [] number = sym (none-any seqs)
any_descendant seqs (work ∷ earlier) number =
    let all = descendants_of_any seqs earlier in
    let each = λ (seq : ℕ). descendants seq earlier in
    let joins = λ (seq : ℕ). eqb work.seq seq || list_any (is_among (each seq)) work.prior in
    let itself : list_any (λ seq. eqb work.seq seq) seqs ≡ is_among seqs work.seq =
    list_any-agree (λ seq. eqb work.seq seq) (λ seq. eqb seq work.seq) seqs (All-any seqs (λ seq. eq-swap work.seq seq)) in
    let prior : list_any (λ seq. list_any (is_among (each seq)) work.prior) seqs ≡ list_any (is_among all) work.prior =
    any-swap (λ seq. is_among (each seq)) seqs work.prior ∙ list_any-agree (λ prior. list_any (λ seq. is_among (each seq) prior) seqs) (is_among all) work.prior
    (All-any work.prior (λ prior. sym (any_descendant seqs earlier prior))) in
    let joined : list_any joins seqs ≡ (is_among seqs work.seq || list_any (is_among all) work.prior) =
    any-or (λ seq. eqb work.seq seq) (λ seq. list_any (is_among (each seq)) work.prior) seqs
    ∙ ap (λ b. b || list_any (λ seq. list_any (is_among (each seq)) work.prior) seqs) itself ∙ ap (λ b. is_among seqs work.seq || b) prior in
    among-cond (is_among seqs work.seq || list_any (is_among all) work.prior) work.seq all number
    ∙ ap (λ b. (b && eqb work.seq number) || is_among all number) (sym joined)
    ∙ ap (λ b. (list_any joins seqs && eqb work.seq number) || b) (any_descendant seqs earlier number)
    ∙ ap (λ b. b || list_any (λ seq. is_among (each seq) number) seqs) (sym (any-and joins (eqb work.seq number) seqs))
    ∙ sym (any-or (λ seq. joins seq && eqb work.seq number) (λ seq. is_among (each seq) number) seqs)
    ∙ list_any-agree (λ seq. (joins seq && eqb work.seq number) || is_among (each seq) number) (λ seq. is_among (descendants seq (work ∷ earlier)) number) seqs
    (All-any seqs (λ seq. sym (among-cond (joins seq) work.seq (each seq) number)))

-- ---- the nodes

-- what holds of each number holds of one that is among them
among-gives : (P : ℕ → Type 0) (numbers : List ℕ) (number : ℕ) → AllByRecursion P numbers → is_among numbers number ≡ true → P number
among-gives P [] number all is = absurd (false≢true is)
among-gives P (one ∷ numbers) number all is = elim (or_cases (eqb one number) (is_among numbers number) is) [
  | inl here ↦ subst P (eqb-true one number here) all.0
  | inr there ↦ among-gives P numbers number all.1 there
]

descendants_there : (all : List Record) (seqs : List ℕ) (works : List Record) → AllByRecursion (λ work. is_there all work.seq ≡ true) works
    → AllByRecursion (λ number. is_there all number ≡ true) (descendants_of_any seqs works)
descendants_there all seqs [] there = tt
descendants_there all seqs (work ∷ earlier) there =
    let rest = descendants_there all seqs earlier there.1 in
    let found = descendants_of_any seqs earlier in
    cond_both (is_among seqs work.seq || list_any (is_among found) work.prior) (work.seq ∷ found) found
    (AllByRecursion (λ number. is_there all number ≡ true)) (λ e. (there.0, rest)) (λ e. rest)

-- a prerequisite that isn't there isn't among what is found
any-there : (all : List Record) (found prior : List ℕ) → AllByRecursion (λ number. is_there all number ≡ true) found
    → list_any (is_among found) (filter (is_there all) prior) ≡ list_any (is_among found) prior
any-there all found prior there =
    any-filter_same (is_among found) (is_there all) true (λ number is. among-gives (λ n. is_there all n ≡ true) found number there is) prior

descendants-nodes : (all : List Record) (seqs : List ℕ) (works : List Record) → AllByRecursion (λ work. is_there all work.seq ≡ true) works
    → graph.descendants seqs (map (node_of all) works) ≡ descendants_of_any seqs works
descendants-nodes all seqs [] there = refl
descendants-nodes all seqs (work ∷ earlier) there =
    let found = descendants_of_any seqs earlier in
    ap (λ found. cond (is_among seqs work.seq || list_any (is_among found) (filter (is_there all) work.prior)) (work.seq ∷ found) found)
    (descendants-nodes all seqs earlier there.1)
    ∙ ap (λ b. cond (is_among seqs work.seq || b) (work.seq ∷ found) found)
    (any-there all found work.prior (descendants_there all seqs earlier there.1))

map-reverse : {T U : Type 0} (f : T → U) (xs : List T) → map f (reverse xs) ≡ reverse (map f xs)
map-reverse f [] = refl
map-reverse f (x ∷ xs) =
    ap (map f) (reverse-append (x ∷ []) xs) ∙ map-append f (reverse xs) (x ∷ []) ∙ ap (λ rest. rest ++ f x ∷ []) (map-reverse f xs)
    ∙ sym (reverse-append (f x ∷ []) (map f xs))

-- the descendants of nodes are those of their records
reached-nodes : (seqs : List ℕ) (works : List Record) → reached_from seqs (nodes_of works) ≡ reverse (descendants_of_any seqs (reverse works))
reached-nodes seqs works =
    ap (λ (list : List NodeFields). reverse (graph.descendants seqs list)) (sym (map-reverse (node_of works) works))
    ∙ ap reverse (descendants-nodes works seqs (reverse works) (All-reverse _ works (there-each works)))

-- those that are reached are the unfinished descendants
pub reached_any-test : (seqs : List ℕ) (works : List Record) (work : Record)
    → (is_open work.phase && is_among (reached_from seqs (nodes_of works)) work.seq) ≡ list_any (λ seq. is_reached seq works work) seqs
unfolding is_reached
reached_any-test seqs works work =
    let found = descendants_of_any seqs (reverse works) in
    ap (λ numbers. is_open work.phase && is_among numbers work.seq) (reached-nodes seqs works)
    ∙ ap (λ b. is_open work.phase && b) (list_any-reverse (λ n. eqb n work.seq) found ∙ any_descendant seqs (reverse works) work.seq)
    ∙ sym (any-under (λ seq. is_among (descendants seq (reverse works)) work.seq) (is_open work.phase) seqs)

or-none : (b : Bool) → (b || false) ≡ b
or-none true = refl
or-none false = refl

-- and those of one work
pub reached-test : (seq : ℕ) (works : List Record) (work : Record)
    → (is_open work.phase && is_among (reached_from (seq ∷ []) (nodes_of works)) work.seq) ≡ is_reached seq works work
reached-test seq works work = reached_any-test (seq ∷ []) works work ∙ or-none (is_reached seq works work)
