-- The graph of the records follows a step: what it does makes the nodes of the records after it.
use Rattle.std.proofs.Common.{◌≡◌, ◌≢◌, ◌⊎◌, ℕ, zero, suc, ◌+◌, ◌<◌, ◌&&◌, ◌||◌, pos, Bool, true, false, not, cond, eqb, List, [], ◌∷◌, ◌++◌, append_assoc, filter, length, map, set, slice_get, Option, None, Some, refl, sym, ◌∙◌, ap, subst, arith, inl, inr}
use Rattle.std.specs.List.{AllByRecursion}
use Rattle.std.proofs.lemmas.Bool.{cases_Bool, eq-eqb, eqb-true, false≢true, ne_eqb, or_cases, or_left, or_right}
use Rattle.std.proofs.lemmas.Int.{ints}
use Rattle.std.proofs.lemmas.List.{map-append, append-nil, length-set, set-append_left}
use Rattle.std.proofs.lemmas.List.Elements.{filter-append}
use Rattle.std.proofs.lemmas.List.Folds.{list_any-append}
use Rattle.std.proofs.lemmas.Option.{none-some, same_Some}
use Rattle.wm_collections.specs.Lists.{AllLater, HasOne}
use Rattle.wm_graph.specs.Marks.{is_met, marked, with_marked}
use Rattle.wm_graph.specs.Nodes as graph
use Rattle.wm_graph.specs.Nodes.{HasNode, NamesNodes, NodeFields}
use Rattle.wm_keeper.specs.Keeper.{changed_number, AreOfDifferentNumbers}
use Rattle.wm_keeper.specs.declared.row.Change.{Change}
use Rattle.wm_keeper.specs.declared.row.Row.{Row}
use Rattle.wm_machine.proofs.Steps.{Valid-after}
use Rattle.wm_machine.specs.declared.record.Record.{Record}
use Rattle.wm_machine.specs.declared.state.State.{State}
use Rattle.wm_collections.proofs.Lists.{All-any, All-map, All-push, All-weaker, All-with2, AllLater-push, filter-each, filter-same, map-same, one_gives}
use Rattle.wm_machine.proofs.Runnings.{WorksAscend, WorksAscend-in_order}
use Rattle.wm_machine.specs.First.{is_succeeded}
use Rattle.wm_machine.specs.Rows.{row_of}
use Rattle.wm_machine.specs.Valid.{Valid}
use Rattle.wm_steps.proofs.KeptRows.{code-succeeded}
use Rattle.wm_steps.proofs.Nodes.{nodes-there}
use Rattle.wm_steps.specs.Readied.{AreReady}
use Rattle.wm_steps.specs.Startables.{HaveRooms}
use Rattle.wm_steps.specs.declared.startable.Startable.{Startable}
use Rattle.wm_changes.specs.Nodes.{is_there, node_of, nodes_of, AreThere}
use Rattle.wm_changes.specs.Replacements.{MayReplace}
use Rattle.wm_changes.specs.StepChanges.{changed_state, changed_works, other_works, put_replaced, put_work, remove_numbered, with_replaced, without, HaveNextNumbers, Fits, IsStepOf, KeepsPlace, KeepsRow, NameEarlier}
use Rattle.wm_index.specs.Entries.{Entry}
use Rattle.wm_machine.specs.Valid.{IsBefore}
use Rattle.wm_steps.specs.Covers.{AreCovered}
use Rattle.wm_steps.specs.Entries.{AreEntriesOf, IsFollowable}
use Rattle.wm_steps.specs.Views.{IsViewed}
use Rattle.wm_changes.specs.declared.change.Replacement.{Replacement}
use Rattle.wm_changes.specs.declared.change.StepChange.{StepChange}
use Rattle.wm_steps.specs.declared.covers.Covers.{Covers}
use Rattle.wm_steps.proofs.ReplacedRecords.{keeps_number, next-above, other_works-above, replaced_within, rows-set, told_within, WorksAscend-set}
use Rattle.wm_steps.specs.Following.{followed, nodes_by, placed_node, with_followed, without_all, AreAddable, IsAddable}

-- ---- the same prerequisites are there

-- nodes among records in which the same numbers are there
nodes-among : (all other works : List Record) → ((number : ℕ) → is_there all number ≡ is_there other number)
    → map (node_of all) works ≡ map (node_of other) works
nodes-among all other works same =
    map-same (node_of all) (node_of other) works (All-any works (λ work. ap (λ (before : List ℕ). record (node_of other work) { before = before })
    (filter-same (is_there all) (is_there other) work.prior (All-any work.prior same))))

there-set : (works : List Record) (i : ℕ) (new : Record) → KeepsPlace works (record { index = i; work = new }) → (number : ℕ)
    → is_there (set works i new) number ≡ is_there works number
there-set [] i new keeps number = refl
there-set (work ∷ works) zero new keeps number = ap (λ n. eqb n number || is_there works number) keeps.seq
there-set (work ∷ works) (suc i) new keeps number = ap (λ b. eqb work.seq number || b) (there-set works i new keeps number)

-- ---- a record that is marked where it has succeeded

cond-cons : {T : Type 0} (b : Bool) (x : T) (xs ys : List T) → cond b (x ∷ xs) (x ∷ ys) ≡ x ∷ cond b xs ys
cond-cons true x xs ys = refl
cond-cons false x xs ys = refl

-- a node of another number stays
marked-other : (seq : ℕ) (node : NodeFields) → (node.seq ≡ seq → ⊥) → marked seq node ≡ node
marked-other seq node differs = ap (λ b. cond b (record node { done = true }) node) (ne_eqb node.seq seq (λ e. absurd (differs e)))

followed-other : (work : Record) (node : NodeFields) (nodes : List NodeFields) → (node.seq ≡ work.seq → ⊥)
    → followed work (node ∷ nodes) ≡ node ∷ followed work nodes
followed-other work node nodes differs =
    let miss = ne_eqb node.seq work.seq (λ e. absurd (differs e)) in
    ap
    (λ b. cond (is_succeeded work.phase && not ((b && node.done) || is_met nodes work.seq)) (marked work.seq node ∷ with_marked work.seq nodes) (node ∷ nodes))
    miss ∙ ap (λ (n : NodeFields). cond (is_succeeded work.phase && not (is_met nodes work.seq)) (n ∷ with_marked work.seq nodes) (node ∷ nodes))
    (marked-other work.seq node differs) ∙ cond-cons (is_succeeded work.phase && not (is_met nodes work.seq)) node (with_marked work.seq nodes) nodes

-- none of greater numbers is met, and none is marked
met-above : (all : List Record) (number : ℕ) (works : List Record) → AllByRecursion (λ work. number < work.seq) works
    → is_met (map (node_of all) works) number ≡ false
met-above all number [] above = refl
met-above all number (work ∷ works) above =
    let miss = ne_eqb work.seq number (λ e. absurd (omega (arith, above.0))) in
    rw miss (met-above all number works above.1)

marked-above : (all : List Record) (number : ℕ) (works : List Record) → AllByRecursion (λ work. number < work.seq) works
    → with_marked number (map (node_of all) works) ≡ map (node_of all) works
marked-above all number [] above = refl
marked-above all number (work ∷ works) above =
    ap (λ (n : NodeFields). n ∷ with_marked number (map (node_of all) works)) (marked-other number (node_of all work) (λ e. absurd (omega (arith, above.0))))
    ∙ ap (λ rest. node_of all work ∷ rest) (marked-above all number works above.1)

-- the node of a record that takes the place of the first
followed-by : (all works : List Record) (old new : Record) (was is : Bool) → new.seq ≡ old.seq → new.prior ≡ old.prior → is_succeeded old.phase ≡ was
    → is_succeeded new.phase ≡ is → (was ≡ true → is ≡ true)
    → cond (is && not was) (record (node_of all old) { done = true } ∷ map (node_of all) works) (node_of all old ∷ map (node_of all) works)
    ≡ node_of all new ∷ map (node_of all) works
followed-by all works old new true true seq prior was is stays = rw (seq, prior, is, was) refl
followed-by all works old new true false seq prior was is stays = absurd (false≢true (stays refl))
followed-by all works old new false true seq prior was is stays = rw (seq, prior, is) refl
followed-by all works old new false false seq prior was is stays = rw (seq, prior, is, was) refl

or_false : (b : Bool) → (b || false) ≡ b
or_false true = refl
or_false false = refl

followed-first : (all works : List Record) (old new : Record) → MayReplace old new → AllByRecursion (λ later. old.seq < later.seq) works
    → followed new (map (node_of all) (old ∷ works)) ≡ map (node_of all) (new ∷ works)
followed-first all works old new keeps above =
    let above_new = subst (λ n. AllByRecursion (λ later. n < later.seq) works) (sym keeps.seq) above in
    let nodes = map (node_of all) works in
    let hit = eq-eqb old.seq new.seq (sym keeps.seq) in
    ap (λ b. cond (is_succeeded new.phase && not ((b && is_succeeded old.phase) || is_met nodes new.seq))
    (cond b (record (node_of all old) { done = true }) (node_of all old) ∷ with_marked new.seq nodes) (node_of all old ∷ nodes)) hit
    ∙ ap (λ b. cond (is_succeeded new.phase && not (is_succeeded old.phase || b))
    (record (node_of all old) { done = true } ∷ with_marked new.seq nodes) (node_of all old ∷ nodes)) (met-above all new.seq works above_new)
    ∙ ap (λ b. cond (is_succeeded new.phase && not b)
    (record (node_of all old) { done = true } ∷ with_marked new.seq nodes) (node_of all old ∷ nodes)) (or_false (is_succeeded old.phase))
    ∙ ap (λ (rest : List NodeFields). cond (is_succeeded new.phase && not (is_succeeded old.phase))
    (record (node_of all old) { done = true } ∷ rest) (node_of all old ∷ nodes)) (marked-above all new.seq works above_new)
    ∙ followed-by all works old new (is_succeeded old.phase) (is_succeeded new.phase) keeps.seq keeps.prior refl refl keeps.succeeded

-- what holds of each holds of the one that a record takes the place of
place-above : (number : ℕ) (works : List Record) (i : ℕ) (new : Record) → KeepsPlace works (record { index = i; work = new })
    → AllByRecursion (λ work. number < work.seq) works → number < new.seq
place-above number [] i new keeps above = absurd keeps
place-above number (work ∷ works) zero new keeps above = subst (λ n. number < n) (sym keeps.seq) above.0
place-above number (work ∷ works) (suc i) new keeps above = place-above number works i new keeps above.1

followed-set : (all works : List Record) (i : ℕ) (new : Record) → KeepsPlace works (record { index = i; work = new }) → WorksAscend works
    → followed new (map (node_of all) works) ≡ map (node_of all) (set works i new)
followed-set all [] i new keeps ascend = absurd keeps
followed-set all (work ∷ works) zero new keeps ascend = followed-first all works work new keeps ascend.0
followed-set all (work ∷ works) (suc i) new keeps ascend =
    let above = place-above work.seq works i new keeps ascend.0 in
    followed-other new (node_of all work) (map (node_of all) works) (λ e. absurd (omega arith))
    ∙ ap (λ rest. node_of all work ∷ rest) (followed-set all works i new keeps ascend.1)

nodes-set : (works : List Record) (i : ℕ) (new : Record) → KeepsPlace works (record { index = i; work = new }) → WorksAscend works
    → followed new (nodes_of works) ≡ nodes_of (set works i new)
nodes-set works i new keeps ascend =
    followed-set works works i new keeps ascend ∙ nodes-among works (set works i new) (set works i new) (λ number. sym (there-set works i new keeps number))

-- ---- records that take the places of others, one after another

-- a record of another number keeps its place
pub place-set : (works : List Record) (i j : ℕ) (one other : Record) → KeepsPlace works (record { index = i; work = one }) → one.seq ≢ other.seq
    → KeepsPlace works (record { index = j; work = other }) → KeepsPlace (set works i one) (record { index = j; work = other })
place-set [] i j one other keeps differs also = absurd keeps
place-set (work ∷ works) zero zero one other keeps differs also = absurd (differs (keeps.seq ∙ sym also.seq))
place-set (work ∷ works) zero (suc j) one other keeps differs also = also
place-set (work ∷ works) (suc i) zero one other keeps differs also = also
place-set (work ∷ works) (suc i) (suc j) one other keeps differs also = place-set works i j one other keeps differs also

abbrev pub AreApart : List Replacement → Type 0
AreApart replaced = AllLater (λ one later. one.work.seq ≢ later.work.seq) replaced

nodes-replaced : (replaced : List Replacement) (works : List Record) → AllByRecursion (KeepsPlace works) replaced → AreApart replaced → WorksAscend works
    → with_followed replaced (nodes_of works) ≡ nodes_of (with_replaced replaced works)
nodes-replaced [] works keep apart ascend = refl
nodes-replaced (replaced ∷ later) works keep apart ascend =
    let then = set works replaced.index replaced.work in
    let rest = All-with2 later (λ r one differs. place-set works replaced.index r.index replaced.work r.work keep.0 differs one) keep.1 apart.0 in
    ap (with_followed later) (nodes-set works replaced.index replaced.work keep.0 ascend) ∙ nodes-replaced later then rest apart.1
    (WorksAscend-set works replaced.index replaced.work (keeps_number works replaced keep.0) ascend)

-- ---- records that tell something

-- the same numbers are stored the same
stored_same : (one other : List ℕ) → map pos one ≡ map pos other → one ≡ other
stored_same [] [] same = refl
stored_same [] (n ∷ other) same = absurd (cc)
stored_same (m ∷ one) [] same = absurd (cc)
stored_same (m ∷ one) (n ∷ other) same =
    let first : pos m ≡ pos n = cc in
    let number : m ≡ n = omega (arith, ints) in
    let rest : map pos one ≡ map pos other = cc in
    ap (λ k. k ∷ one) number ∙ ap (λ list. n ∷ list) (stored_same one other rest)

-- a record of the same row has the same node
pub row-keeps : (old new : Record) → row_of old ≡ row_of new → MayReplace old new × (is_succeeded old.phase ≡ is_succeeded new.phase)
row-keeps old new same =
    let numbers : pos old.seq ≡ pos new.seq = ap (λ (r : Row). r.seq) same in
    let phases = code-succeeded old.phase new.phase (ap (λ (r : Row). r.phase) same) in (
      record {
        seq = omega (arith, ints);
        id = sym (ap (λ (r : Row). r.id) same);
        name = inl (sym (ap (λ (r : Row). r.name) same));
        prior = sym (stored_same old.prior new.prior (ap (λ (r : Row). r.prior) same));
        succeeded = λ is. sym phases ∙ is;
      },
      phases,
    )

node-same : (all : List Record) (old new : Record) → row_of old ≡ row_of new → node_of all new ≡ node_of all old
node-same all old new same =
    let keeps = row-keeps old new same in
    rw (keeps.0.seq, keeps.0.prior, keeps.1) refl

told-place : (works : List Record) (i : ℕ) (new : Record) → slice_get (map row_of works) i ≡ Some (row_of new)
    → KeepsPlace works (record { index = i; work = new })
told-place [] i new is = absurd (none-some (row_of new) is)
told-place (work ∷ works) zero new is = (row-keeps work new (same_Some (row_of work) (row_of new) is)).0
told-place (work ∷ works) (suc i) new is = told-place works i new is

told-nodes : (all works : List Record) (i : ℕ) (new : Record) → slice_get (map row_of works) i ≡ Some (row_of new)
    → map (node_of all) (set works i new) ≡ map (node_of all) works
told-nodes all [] i new is = refl
told-nodes all (work ∷ works) zero new is =
    ap (λ (node : NodeFields). node ∷ map (node_of all) works) (node-same all work new (same_Some (row_of work) (row_of new) is))
told-nodes all (work ∷ works) (suc i) new is = ap (λ rest. node_of all work ∷ rest) (told-nodes all works i new is)

-- a unique name that stays or is let go does so beside a record of the same name
told-name : (was is then : Option (List ℕ)) → (then ≡ was) ⊎ (then ≡ None) → was ≡ is → (then ≡ is) ⊎ (then ≡ None)
told-name was is then (inl kept) same = inl (kept ∙ same)
told-name was is then (inr none) same = inr none

-- a record that keeps a place keeps it where one of the same row has come to stand
told-keeps : (works : List Record) (i j : ℕ) (one other : Record) → slice_get (map row_of works) i ≡ Some (row_of one)
    → KeepsPlace works (record { index = j; work = other }) → KeepsPlace (set works i one) (record { index = j; work = other })
told-keeps [] i j one other is keeps = keeps
told-keeps (work ∷ works) zero zero one other is keeps =
    let same = row-keeps work one (same_Some (row_of work) (row_of one) is) in
    record {
      seq = keeps.seq ∙ sym same.0.seq;
      id = keeps.id ∙ sym same.0.id;
      name = told-name work.name one.name other.name keeps.name (ap (λ (r : Row). r.name) (same_Some (row_of work) (row_of one) is));
      prior = keeps.prior ∙ sym same.0.prior;
      succeeded = λ done. keeps.succeeded (same.1 ∙ done);
    }
told-keeps (work ∷ works) zero (suc j) one other is keeps = keeps
told-keeps (work ∷ works) (suc i) zero one other is keeps = keeps
told-keeps (work ∷ works) (suc i) (suc j) one other is keeps = told-keeps works i j one other is keeps

-- records that tell something leave the nodes, and others keep their places among them
pub record IsTold (works new : List Record) : Type 0 where
  pub nodes : nodes_of new ≡ nodes_of works
  pub ascend : WorksAscend new
  pub places : (j : ℕ) (other : Record) → KeepsPlace works (record { index = j; work = other }) → KeepsPlace new (record { index = j; work = other })

pub nodes-told : (told : List Replacement) (works : List Record) → AllByRecursion (KeepsRow works) told → WorksAscend works
    → IsTold works (with_replaced told works)
nodes-told [] works keep ascend = record { nodes = refl; ascend = ascend; places = λ j other keeps. keeps }
nodes-told (told ∷ later) works keep ascend =
    let then = set works told.index told.work in
    let place = told-place works told.index told.work keep.0 in
    let still =
    subst (λ (rows : List Row). AllByRecursion (λ r. slice_get rows r.index ≡ Some (row_of r.work)) later)
    (sym (rows-set works told.index told.work keep.0)) keep.1 in
    let rest = nodes-told later then still (WorksAscend-set works told.index told.work (keeps_number works told place) ascend) in
    record {
      nodes = rest.nodes ∙ nodes-among then works then (there-set works told.index told.work place) ∙ told-nodes works works told.index told.work keep.0;
      ascend = rest.ascend;
      places = λ j other keeps. rest.places j other (told-keeps works told.index j told.work other keep.0 keeps);
    }

-- ---- records that are removed

filter-twice : (keep also both : ℕ → Bool) (xs : List ℕ) → ((n : ℕ) → both n ≡ (also n && keep n)) → filter keep (filter also xs) ≡ filter both xs
filter-twice keep also both [] same = refl
filter-twice keep also both (x ∷ xs) same =
    let rest = filter-twice keep also both xs same in
    elim (cases_Bool (also x)) [
      | inl e ↦ elim (cases_Bool (keep x)) [
        | inl f ↦ let here : both x ≡ true = same x ∙ (rw (e, f) refl) in rw (e, f, here) (ap (λ ys. x ∷ ys) rest)
        | inr f ↦ let here : both x ≡ false = same x ∙ (rw (e, f) refl) in rw (e, f, here) rest
      ]
      | inr e ↦ let here : both x ≡ false = same x ∙ (rw e refl) in rw (e, here) rest
    ]

and_no : (b : Bool) → (b && false) ≡ false
and_no true = refl
and_no false = refl

-- a number is there where it was and isn't the one taken away
there-without : (seq : ℕ) (works : List Record) (number : ℕ) → is_there (other_works seq works) number ≡ (is_there works number && not (eqb number seq))
there-without seq [] number = refl
there-without seq (work ∷ works) number =
    let rest = there-without seq works number in
    elim (cases_Bool (eqb work.seq seq)) [
      | inl e ↦ elim (cases_Bool (eqb work.seq number)) [
        | inl f ↦
            let gone : eqb number seq ≡ true = eq-eqb number seq (sym (eqb-true work.seq number f) ∙ eqb-true work.seq seq e) in
            rw (e, f, gone) (rest ∙ (rw gone (and_no (is_there works number))))
        | inr f ↦ rw (e, f) rest
      ]
      | inr e ↦ elim (cases_Bool (eqb work.seq number)) [
        | inl f ↦
            let kept : eqb number seq ≡ false = subst (λ n. eqb n seq ≡ false) (eqb-true work.seq number f) e in
            rw (e, f, kept) refl
        | inr f ↦ rw (e, f) rest
      ]
    ]

forgotten : (seq : ℕ) (all left works : List Record) → ((number : ℕ) → is_there left number ≡ (is_there all number && not (eqb number seq)))
    → map (graph.forgetting seq) (filter (λ node. not (eqb node.seq seq)) (map (node_of all) works)) ≡ map (node_of left) (other_works seq works)
forgotten seq all left [] same = refl
forgotten seq all left (work ∷ works) same =
    let rest = forgotten seq all left works same in
    let before = filter-twice (λ n. not (eqb n seq)) (is_there all) (is_there left) work.prior same in
    elim (cases_Bool (eqb work.seq seq)) [
      | inl e ↦ rw e rest
      | inr e ↦ rw e (ap (λ (nodes : List NodeFields). graph.forgetting seq (node_of all work) ∷ nodes) rest
          ∙ ap (λ (numbers : List ℕ). record (node_of left work) { before = numbers } ∷ map (node_of left) (other_works seq works)) before)
    ]

-- the nodes of the records but one
nodes-without : (seq : ℕ) (works : List Record) → graph.without seq (nodes_of works) ≡ nodes_of (other_works seq works)
nodes-without seq works = forgotten seq works (other_works seq works) works (there-without seq works)

nodes-removed : (numbers : List ℕ) (works : List Record) → without_all numbers (nodes_of works) ≡ nodes_of (without numbers works)
nodes-removed [] works = refl
nodes-removed (number ∷ numbers) works = ap (without_all numbers) (nodes-without number works) ∙ nodes-removed numbers (other_works number works)

-- ---- records that are placed

-- prerequisites have smaller numbers
abbrev NameSmaller : List Record → Type 0
NameSmaller works = AllByRecursion (λ work. AllByRecursion (λ number. number < work.seq) work.prior) works

there-below : (next : ℕ) (works : List Record) (number : ℕ) → AllByRecursion (λ work. work.seq < next) works → is_there works number ≡ true → number < next
there-below next [] number below is = absurd (false≢true is)
there-below next (work ∷ works) number below is = elim (or_cases (eqb work.seq number) (is_there works number) is) [
  | inl here ↦ subst (λ n. n < next) (eqb-true work.seq number here) below.0
  | inr there ↦ there-below next works number below.1 there
]

-- numbers below that of a new record are there as before
there-push : (works : List Record) (work : Record) (number : ℕ) → number < work.seq → is_there (works ++ work ∷ []) number ≡ is_there works number
there-push works work number below =
    list_any-append (λ (w : Record). eqb w.seq number) works (work ∷ [])
    ∙ ap (λ b. is_there works number || (b || false)) (ne_eqb work.seq number (λ e. absurd (omega arith))) ∙ or_false (is_there works number)

-- one record more
nodes-push : (works : List Record) (work : Record) → NameSmaller works → AllByRecursion (λ w. w.seq < work.seq) works
    → AllByRecursion (λ number. is_there works number ≡ true) work.prior → nodes_of works ++ placed_node work ∷ [] ≡ nodes_of (works ++ work ∷ [])
nodes-push works work smaller below there =
    let all : List Record = works ++ work ∷ [] in
    let old =
    map-same (node_of all) (node_of works) works (All-with2 works (λ w below below_is. ap (λ (before : List ℕ). record (node_of works w) { before = before })
    (filter-same (is_there all) (is_there works) w.prior
    (All-weaker w.prior (λ n less. there-push works work n (let under = below_is in omega arith)) below))) smaller below) in
    let new : filter (is_there all) work.prior ≡ work.prior =
    filter-each (is_there all) work.prior
    (All-weaker work.prior (λ n is. list_any-append (λ (w : Record). eqb w.seq n) works (work ∷ []) ∙ or_left _ _ is) there) in
    sym (map-append (node_of all) works (work ∷ []) ∙ ap (λ (nodes : List NodeFields). nodes ++ node_of all work ∷ []) old
    ∙ ap (λ (before : List ℕ). nodes_of works ++ (record (placed_node work) { before = before }) ∷ []) new)

-- the nodes of records that are placed can be added, and are then those of all
record IsGrown (works placed : List Record) : Type 0 where
  addable : AreAddable (nodes_of works) (map placed_node placed)
  nodes : nodes_of works ++ map placed_node placed ≡ nodes_of (works ++ placed)
  ascend : WorksAscend (works ++ placed)

addable-one : (works : List Record) (work : Record) → AllByRecursion (λ w. w.seq < work.seq) works → AreThere works work.prior
    → IsAddable (nodes_of works) (placed_node work)
addable-one works work under is = record {
  above = All-map _ (node_of works) works (λ w less. less) under;
  few = is.few;
  names = record {
    different = is.different;
    there = All-weaker work.prior (λ n there. nodes-there works works n ∙ there) is.there;
  };
}

grown : (next : ℕ) (placed works : List Record) → HaveNextNumbers next placed → NameEarlier works placed → WorksAscend works
    → AllByRecursion (λ work. work.seq < next) works → NameSmaller works → IsGrown works placed
grown next [] works numbered named ascend below smaller = record {
  addable = tt;
  nodes = append-nil (nodes_of works) ∙ ap nodes_of (sym (append-nil works));
  ascend = subst WorksAscend (sym (append-nil works)) ascend;
}
grown next (work ∷ placed) works numbered named ascend below smaller =
    let under : AllByRecursion (λ w. w.seq < work.seq) works = subst (λ n. AllByRecursion (λ w. w.seq < n) works) (sym numbered.0) below in
    let is = named.0 in
    let step = nodes-push works work smaller under is.there in
    let before = All-weaker work.prior (λ n there. there-below work.seq works n under there) is.there in
    let more = All-push _ works work (All-weaker works (λ w is. omega arith) below) (omega (arith, numbered.0)) in
    let rest =
    grown (next + 1) placed (works ++ work ∷ []) numbered.1 named.1 (AllLater-push _ works work ascend under) more (All-push _ works work smaller before) in
    let all = append_assoc works (work ∷ []) placed in
    record {
      addable = (
        addable-one works work under is,
        subst (λ (nodes : List NodeFields). AreAddable nodes (map placed_node placed)) (sym step) rest.addable,
      );
      nodes = sym (append_assoc (nodes_of works) (placed_node work ∷ []) (map placed_node placed))
          ∙ ap (λ (nodes : List NodeFields). nodes ++ map placed_node placed) step ∙ rest.nodes ∙ ap nodes_of all;
      ascend = subst WorksAscend all rest.ascend;
    }

-- ---- before the records that are placed

place-front : (works placed : List Record) (i : ℕ) (new : Record) → KeepsPlace works (record { index = i; work = new })
    → KeepsPlace (works ++ placed) (record { index = i; work = new })
place-front [] placed i new keeps = absurd keeps
place-front (work ∷ works) placed zero new keeps = keeps
place-front (work ∷ works) placed (suc i) new keeps = place-front works placed i new keeps

row-front : (works placed : List Record) (i : ℕ) (new : Record) → slice_get (map row_of works) i ≡ Some (row_of new)
    → slice_get (map row_of (works ++ placed)) i ≡ Some (row_of new)
row-front [] placed i new is = absurd (none-some (row_of new) is)
row-front (work ∷ works) placed zero new is = is
row-front (work ∷ works) placed (suc i) new is = row-front works placed i new is

length-replaced : (replaced : List Replacement) (works : List Record) → length (with_replaced replaced works) ≡ length works
length-replaced [] works = refl
length-replaced (replaced ∷ later) works = length-replaced later (set works replaced.index replaced.work) ∙ length-set works replaced.index replaced.work

replaced-front : (replaced : List Replacement) (works placed : List Record) → AllByRecursion (λ r. r.index < length works) replaced
    → with_replaced replaced (works ++ placed) ≡ with_replaced replaced works ++ placed
replaced-front [] works placed within = refl
replaced-front (replaced ∷ later) works placed within =
    ap (with_replaced later) (set-append_left works placed replaced.index replaced.work within.0)
    ∙ replaced-front later (set works replaced.index replaced.work) placed
    (subst (λ n. AllByRecursion (λ r. r.index < n) later) (sym (length-set works replaced.index replaced.work)) within.1)

removed-front : (numbers : List ℕ) (works placed : List Record) → AllByRecursion (λ number. AllByRecursion (λ work. number < work.seq) placed) numbers
    → without numbers (works ++ placed) ≡ without numbers works ++ placed
removed-front [] works placed above = refl
removed-front (number ∷ numbers) works placed above =
    ap (without numbers) (filter-append (λ (work : Record). not (eqb work.seq number)) works placed
    ∙ ap (λ (rest : List Record). other_works number works ++ rest) (other_works-above number placed above.0))
    ∙ removed-front numbers (other_works number works) placed above.1

-- ---- no row is changed twice

differs-put : (number : ℕ) (replaced : List Replacement) (others : List Change)
    → AllByRecursion (λ later. pos number ≢ changed_number later) (map put_replaced replaced ++ others) → AllByRecursion (λ r. number ≢ r.work.seq) replaced
differs-put number [] others differ = tt
differs-put number (r ∷ replaced) others differ = (λ same. differ.0 (ap (λ n. pos n) same), differs-put number replaced others differ.1)

pub puts-apart : (replaced : List Replacement) (others : List Change) → AreOfDifferentNumbers (map put_replaced replaced ++ others)
    → AreApart replaced × AreOfDifferentNumbers others
puts-apart [] others apart = (tt, apart)
puts-apart (r ∷ replaced) others apart =
    let rest = puts-apart replaced others apart.1 in
    ((differs-put r.work.seq replaced others apart.0, rest.0), rest.1)

differs-remove : (number : ℕ) (numbers : List ℕ) (others : List Change)
    → AllByRecursion (λ later. pos number ≢ changed_number later) (map remove_numbered numbers ++ others) → AllByRecursion (λ n. number ≢ n) numbers
differs-remove number [] others differ = tt
differs-remove number (n ∷ numbers) others differ = (λ same. differ.0 (ap (λ n. pos n) same), differs-remove number numbers others differ.1)

pub removes-apart : (numbers : List ℕ) (others : List Change) → AreOfDifferentNumbers (map remove_numbered numbers ++ others)
    → AllLater (λ number later. number ≢ later) numbers
removes-apart [] others apart = tt
removes-apart (number ∷ numbers) others apart = (differs-remove number numbers others apart.0, removes-apart numbers others apart.1)

-- ---- the step

-- a record that keeps a place has a number that is there
pub place-there : (works : List Record) (i : ℕ) (new : Record) → KeepsPlace works (record { index = i; work = new }) → is_there works new.seq ≡ true
place-there [] i new keeps = absurd keeps
place-there (work ∷ works) zero new keeps = or_left _ _ (eq-eqb work.seq new.seq (sym keeps.seq))
place-there (work ∷ works) (suc i) new keeps = or_right _ _ (place-there works i new keeps)

one-there : (number : ℕ) (works placed : List Record) → HasOne (λ work. work.seq ≡ number) works → is_there (works ++ placed) number ≡ true
one-there number [] placed one = absurd one
one-there number (work ∷ works) placed (inl is) = or_left _ _ (eq-eqb work.seq number is)
one-there number (work ∷ works) placed (inr one) = or_right _ _ (one-there number works placed one)

module _ (s : State) (change : StepChange) (valid : Valid s) (fits : Fits s change) where
  abbrev all : List Record
  all = s.works ++ change.placed

  smaller : NameSmaller s.works
  smaller = All-weaker s.works (λ work is. All-weaker work.prior (λ n both. both.1) is.prior.earlier) valid.works.records

  is_grown : IsGrown s.works change.placed
  is_grown = grown s.next change.placed s.works fits.placed fits.named (WorksAscend-in_order s.works valid.works.in_order) valid.works.numbers smaller

  pub step-addable : AreAddable (nodes_of s.works) (map placed_node change.placed)
  step-addable = is_grown.addable

  pub step-grown : nodes_of s.works ++ map placed_node change.placed ≡ nodes_of all
  step-grown = is_grown.nodes

  pub step-replaced : AllByRecursion (λ r. HasNode (nodes_of all) r.work.seq) change.replaced
  step-replaced =
      All-weaker change.replaced (λ r keeps.
      nodes-there all all r.work.seq ∙ place-there all r.index r.work (place-front s.works change.placed r.index r.work keeps)) fits.replaced

  apart : AreApart change.replaced × AreOfDifferentNumbers (map remove_numbered change.removed ++ map put_work change.placed)
  apart =
      puts-apart change.replaced (map remove_numbered change.removed ++ map put_work change.placed) (subst AreOfDifferentNumbers
      (append_assoc (map put_replaced change.replaced) (map remove_numbered change.removed) (map put_work change.placed)) fits.apart)

  pub step-removed : NamesNodes (nodes_of all) change.removed
  step-removed = record {
    different = removes-apart change.removed (map put_work change.placed) apart.1;
    there = All-weaker change.removed (λ number one. nodes-there all all number ∙ one-there number s.works change.placed one) fits.removed;
  }

  is_told : IsTold all (with_replaced change.told all)
  is_told = nodes-told change.told all (All-weaker change.told (λ r keeps. row-front s.works change.placed r.index r.work keeps) fits.told) is_grown.ascend

  -- the records that are placed are last in each state between
  front : without change.removed (with_replaced change.replaced (with_replaced change.told all)) ≡ (changed_state change s).works
  front =
      let told = with_replaced change.told s.works in
      let count : length told ≡ length s.works = length-replaced change.told s.works in
      ap (λ (works : List Record). without change.removed (with_replaced change.replaced works))
      (replaced-front change.told s.works change.placed (told_within s.works change.told fits.told)) ∙ ap (without change.removed)
      (replaced-front change.replaced told change.placed
      (subst (λ n. AllByRecursion (λ r. r.index < n) change.replaced) (sym count) (replaced_within s.works change.replaced fits.replaced)))
      ∙ removed-front change.removed (with_replaced change.replaced told) change.placed (All-weaker change.removed (λ number one.
      let below : number < s.next = one_gives s.works (λ work below is. omega (arith, below, is)) valid.works.numbers one in
      All-weaker change.placed (λ work above. omega (arith, below, above)) (next-above s.next change.placed fits.placed)) fits.removed)

  -- marked and taken away, they are the nodes of the records after the step
  pub step-nodes : nodes_by change (nodes_of all) ≡ nodes_of (changed_state change s).works
  step-nodes =
      let told = with_replaced change.told all in
      let places =
      All-weaker change.replaced (λ r keeps. is_told.places r.index r.work (place-front s.works change.placed r.index r.work keeps)) fits.replaced in
      ap (λ (nodes : List NodeFields). without_all change.removed (with_followed change.replaced nodes)) (sym is_told.nodes)
      ∙ ap (without_all change.removed) (nodes-replaced change.replaced told places apart.0 is_told.ascend)
      ∙ nodes-removed change.removed (with_replaced change.replaced told) ∙ ap nodes_of front

-- a change of a valid state that fits it can be followed
pub step-follows : (s : State) (change : StepChange) → Valid s → IsStepOf s change → IsFollowable s.works change
step-follows s change valid is =
    let fits = is.fits in
    let next = Valid-after s change.event valid is.legal in
    record {
      told = fits.told;
      replaced = fits.replaced;
      removed = fits.removed;
      apart = fits.apart;
      ascending = (is_grown s change valid fits).ascend;
      different = subst (λ (works : List Record). AllLater IsBefore works) (ap (λ (t : State). t.works) (sym is.state)) next.works.in_order;
    }

-- what is made of a view is one again
pub viewed-step : (s made : State) (graph made_graph : List NodeFields) (index made_index : List Entry) (startable made_startable : Startable)
    (covers made_covers : Covers) (change : StepChange) → IsViewed s graph index startable covers → IsStepOf s change → made ≡ changed_state change s → made_graph ≡ nodes_of (changed_state change s).works
    → AreEntriesOf (changed_works change s.works) made_index → HaveRooms made made_startable
    → AreReady made_startable.classes (changed_works change s.works) made_startable.ready → AreCovered made made_covers → IsViewed made made_graph made_index made_startable made_covers
viewed-step s made graph made_graph index made_index startable made_startable covers made_covers change viewed is made_is graph_is entries_are rooms ready_are covered =
    let works : changed_works change s.works ≡ made.works = ap (λ (t : State). t.works) (sym made_is) in
    record {
      valid = subst Valid (sym (made_is ∙ is.state)) (Valid-after s change.event viewed.valid is.legal);
      graph_is = graph_is ∙ ap (λ (t : State). nodes_of t.works) (sym made_is);
      entries_are = subst (λ (works : List Record). AreEntriesOf works made_index) works entries_are;
      startable_are = record {
        rooms = rooms;
        ready_are = subst (λ (works : List Record). AreReady made_startable.classes works made_startable.ready) works ready_are;
      };
      covered = covered;
    }
