-- Works that are cancelled one after another, and others that are let go then: what becomes of each record, and the change that makes it so.
use Rattle.std.proofs.Common.{◌≡◌, ◌&&◌, ◌||◌, ℕ, ◌+◌, Bool, true, false, not, cond, eqb, List, [], ◌∷◌, length, map, filter, Option, Some, None, refl, sym, ◌∙◌, ap, arith, inl, inr}
use Rattle.std.specs.List.{AllByRecursion, list_any}
use Rattle.std.specs.Prelude.{reverse}
use Rattle.std.proofs.lemmas.Bool.{and_from, and_parts, and_right, cases_Bool, cond_both, eq-eqb, or_parts}
use Rattle.std.proofs.lemmas.Simd.{map-map}
use Rattle.wm_collections.specs.Lists.{AllLater, HasOne, is_among}
use Rattle.wm_commands.specs.Cleared.{becomes_cancelled, cancelled_in, cancelling, cleared, cleared_by, cleared_state, clearing_of, is_needed_then, is_removed, is_run_among, is_touched, phase_then, pruning, replaced_by_clearing, stays, with_cleared}
use Rattle.wm_commands.specs.declared.clearing.Clearing.{Clearing}
use Rattle.wm_machine.proofs.Closings.{not_run_reached}
use Rattle.wm_machine.proofs.Groups.{closed_by, is_any_run_reached, works_closed-is}
use Rattle.wm_collections.proofs.Lists.{All-any, All-stored, All-weaker, filter-none, filter-same, list_any-agree, list_any-false, list_any-stored, list_any_after, map-same, one_gives}
use Rattle.wm_graph.specs.Descendants.{descendants}
use Rattle.wm_graph.specs.Nodes.{NodeFields}
use Rattle.wm_machine.proofs.Runnings.{IsAlone, IsAlone-stored, WorksAscend-in_order}
use Rattle.wm_machine.proofs.Stops.{stopped-idle, stopped_in}
use Rattle.wm_machine.specs.Closed.{closed, is_open, is_reached, is_run_reached, with_works_closed}
use Rattle.wm_machine.specs.Enqueued.{made_ready}
use Rattle.wm_machine.specs.Group.{is_dropped, numbers_in, unnamed, with_let_go}
use Rattle.wm_machine.specs.Plan.{Placing}
use Rattle.wm_machine.specs.Pruned.{is_needed, removable}
use Rattle.wm_machine.specs.Runs.{stopped, with_stopped}
use Rattle.wm_machine.specs.Valid.{IsBefore, IsWorkOf, Valid}
use Rattle.wm_machine.specs.declared.record.How.TheVariants as how
use Rattle.wm_machine.specs.declared.record.Phase.TheVariants as phase
use Rattle.wm_machine.specs.declared.record.Record.{Record}
use Rattle.wm_machine.specs.declared.state.Run.{Run}
use Rattle.wm_machine.specs.declared.state.State.{State}
use Rattle.wm_steps.proofs.ManyRows.{after_change, replaced-all, KeepNodes}
use Rattle.wm_steps.proofs.Nodes.{open_not_succeeded}
use Rattle.wm_steps.proofs.ReachedNodes.{reached_any-test}
use Rattle.wm_changes.proofs.RemovedWorks.{without-kept}
use Rattle.wm_changes.specs.Nodes.{nodes_of, reached_from}
use Rattle.wm_changes.specs.Replacements.{MayReplace}
use Rattle.wm_changes.specs.Replacements.{at_index, or_same, replacements}
use Rattle.wm_changes.specs.StepChanges.{with_replaced, without}
use Rattle.wm_unique.proofs.Numbered.{among_filter}

-- ---- what any of several works reaches

-- a record is reached by one of them where it is unfinished, and one of those that are found
pub any_reached : (seqs : List ℕ) (works : List Record) (work : Record)
    → list_any (λ seq. is_reached seq works work) seqs ≡ becomes_cancelled (reached_from seqs (nodes_of works)) work
any_reached seqs works work = sym (reached_any-test seqs works work)

-- so each is cancelled at once
cancelled-each : (at : ℕ) (seqs : List ℕ) (works : List Record)
    → map (closed_by how.Cancelled at seqs works) works ≡ map (cancelled_in at (reached_from seqs (nodes_of works))) works
cancelled-each at seqs works =
    map-same (closed_by how.Cancelled at seqs works) (cancelled_in at (reached_from seqs (nodes_of works))) works
    (All-any works (λ work. ap (λ b. cond b (closed how.Cancelled at work) work) (any_reached seqs works work)))

-- ---- the runs that are stopped

-- a current run is of a record that is reached exactly where its work is among those that are found
current_reached : (seqs : List ℕ) (works : List Record) (run : Run) (work : Record) → HasOne (λ other. other ≡ work) works
    → AllByRecursion (IsAlone work) works → IsWorkOf run work
    → is_any_run_reached seqs works run ≡ is_run_among (reached_from seqs (nodes_of works)) run
current_reached seqs works run work stored alone of =
    let found = reached_from seqs (nodes_of works) in
    list_any-agree (λ seq. is_run_reached seq works run) (λ seq. is_reached seq works work) seqs (All-any seqs (λ seq. elim (cases_Bool (is_reached seq works work)) [
      | inl e ↦
          list_any-stored (λ other. eqb other.seq run.seq && is_reached seq works other) works work stored
          (and_from _ _ (eq-eqb work.seq run.seq of.seq) e) ∙ sym e
      | inr e ↦ not_run_reached seq works work run alone e (sym of.seq) ∙ sym e
    ])) ∙ any_reached seqs works work
    ∙ ap (λ b. b && is_among found work.seq) (ap is_open of.running) ∙ ap (is_among found) of.seq

-- so the runs of these are stopped
pub stopped-each : (seqs : List ℕ) (s : State) → Valid s
    → with_stopped (is_any_run_reached seqs s.works) s.runs ≡ with_stopped (is_run_among (reached_from seqs (nodes_of s.works))) s.runs
stopped-each seqs s valid =
    let any = is_any_run_reached seqs s.works in
    let among = is_run_among (reached_from seqs (nodes_of s.works)) in
    map-same (stopped_in any) (stopped_in among) s.runs (All-weaker s.runs (λ run fine. elim (cases_Bool run.current) [
      | inl current ↦
          one_gives s.works (λ work there of. ap (λ b. cond b (stopped run) run) (current_reached seqs s.works run work there
          (IsAlone-stored work s.works valid.works.in_order there) of)) (All-stored s.works) (fine.work current)
      | inr idle ↦ stopped-idle (any run) run idle ∙ sym (stopped-idle (among run) run idle)
    ]) valid.runs.each)

-- the state once works are cancelled one after another
pub cancelled-state : (seqs : List ℕ) (s : State) → Valid s → let found = reached_from seqs (nodes_of s.works) in
    with_works_closed how.Cancelled seqs s ≡ record s { works = map (cancelled_in s.now found) s.works; runs = with_stopped (is_run_among found) s.runs }
cancelled-state seqs s valid =
    works_closed-is how.Cancelled seqs s
    ∙ ap (λ (works : List Record). record s { works = works; runs = with_stopped (is_any_run_reached seqs s.works) s.runs }) (cancelled-each s.now seqs s.works)
    ∙ ap (λ (runs : List Run). record s { works = map (cancelled_in s.now (reached_from seqs (nodes_of s.works))) s.works; runs = runs }) (stopped-each seqs s valid)

-- ---- what a cancelling leaves of a record

cancelled_both : (P : Record → Type 0) (at : ℕ) (cancelled : List ℕ) (work : Record) → P (closed how.Cancelled at work) → P work
    → P (cancelled_in at cancelled work)
cancelled_both P at cancelled work hit miss = cond_both (becomes_cancelled cancelled work) (closed how.Cancelled at work) work P (λ e. hit) (λ e. miss)

cancelled-number : (at : ℕ) (cancelled : List ℕ) (work : Record) → (cancelled_in at cancelled work).seq ≡ work.seq
cancelled-number at cancelled work = cancelled_both (λ w. w.seq ≡ work.seq) at cancelled work refl refl

cancelled-prior : (at : ℕ) (cancelled : List ℕ) (work : Record) → (cancelled_in at cancelled work).prior ≡ work.prior
cancelled-prior at cancelled work = cancelled_both (λ w. w.prior ≡ work.prior) at cancelled work refl refl

cond-phase : (b : Bool) (at : ℕ) (work : Record) → (cond b (closed how.Cancelled at work) work).phase ≡ cond b (phase.Done how.Cancelled) work.phase
cond-phase true at work = refl
cond-phase false at work = refl

pub cancelled-phase : (at : ℕ) (cancelled : List ℕ) (work : Record) → (cancelled_in at cancelled work).phase ≡ phase_then cancelled work
cancelled-phase at cancelled work = cond-phase (becomes_cancelled cancelled work) at work

-- ---- which are removed

needed-then : (at : ℕ) (cancelled : List ℕ) (works : List Record) (number : ℕ)
    → is_needed (map (cancelled_in at cancelled) works) number ≡ is_needed_then cancelled works number
unfolding is_needed
needed-then at cancelled works number =
    list_any_after (λ work. is_open work.phase && is_among work.prior number) (cancelled_in at cancelled) works
    ∙ list_any-agree (λ work. is_open (cancelled_in at cancelled work).phase && is_among (cancelled_in at cancelled work).prior number)
    (λ work. is_open (phase_then cancelled work) && is_among work.prior number) works
    (All-any works (λ work. rw (cancelled-phase at cancelled work, cancelled-prior at cancelled work) refl))

-- once others are cancelled, a record is dropped where it is removed
dropped-then : (at : ℕ) (cancelled let_go : List ℕ) (works : List Record) (work : Record)
    → is_dropped let_go (map (cancelled_in at cancelled) works) (cancelled_in at cancelled work) ≡ is_removed cancelled let_go works work
unfolding removable
dropped-then at cancelled let_go works work =
    rw (cancelled-number at cancelled work, cancelled-phase at cancelled work, needed-then at cancelled works work.seq) refl

-- ---- lists

pub filter-map : {T U : Type 0} (keep : U → Bool) (f : T → U) (xs : List T) → filter keep (map f xs) ≡ map f (filter (λ x. keep (f x)) xs)
filter-map keep f [] = refl
filter-map {T} {U} keep f (x ∷ xs) =
    cond_both (keep (f x)) (x ∷ filter (λ x. keep (f x)) xs) (filter (λ x. keep (f x)) xs) (λ (l : List T). filter keep (map f (x ∷ xs)) ≡ map f l)
    (λ e. ap (λ b. cond b (f x ∷ filter keep (map f xs)) (filter keep (map f xs))) e ∙ ap (λ rest. f x ∷ rest) (filter-map keep f xs))
    (λ e. ap (λ b. cond b (f x ∷ filter keep (map f xs)) (filter keep (map f xs))) e ∙ filter-map keep f xs)

-- two changes that are the same of what is kept
map-kept : {T U : Type 0} (f g : T → U) (keep : T → Bool) (xs : List T) → ((x : T) → keep x ≡ true → f x ≡ g x)
    → map f (filter keep xs) ≡ map g (filter keep xs)
map-kept f g keep [] same = refl
map-kept {T} f g keep (x ∷ xs) same =
    cond_both (keep x) (x ∷ filter keep xs) (filter keep xs) (λ (l : List T). map f l ≡ map g l)
    (λ e. rw (same x e, map-kept f g keep xs same) refl) (λ e. map-kept f g keep xs same)

-- ---- their numbers

-- the records of other numbers than those that pass are those that don't
pub stays-passing : (test : Record → Bool) (works : List Record) → AllLater IsBefore works
    → filter (stays (numbers_in (filter test works))) works ≡ filter (λ work. not (test work)) works
stays-passing test works order =
    filter-same (stays (numbers_in (filter test works))) (λ work. not (test work)) works
    (All-weaker works (λ work same. ap not same) (among_filter test works (WorksAscend-in_order works order)))

-- ---- where nothing is cancelled and none let go

-- no work reaches none
descendants-none : (nodes : List NodeFields) → descendants [] nodes ≡ []
descendants-none [] = refl
descendants-none (node ∷ earlier) =
    ap (λ found. cond (list_any (is_among found) node.before) (node.seq ∷ found) found) (descendants-none earlier)
    ∙ ap (λ b. cond b (node.seq ∷ []) []) (list_any-false (is_among []) node.before (All-any node.before (λ number. refl)))

pub reached-none : (works : List Record) → reached_from [] (nodes_of works) ≡ []
reached-none works = ap reverse (descendants-none (reverse (nodes_of works)))

-- then nothing becomes of the records
pub clearing-none : (at : ℕ) (works : List Record) (cancel let_go : List ℕ) → length cancel ≡ 0 → length let_go ≡ 0
    → clearing_of at works cancel let_go ≡ cancelling at []
clearing-none at works [] [] no_cancel no_let_go =
    rw (reached-none works, filter-none (is_removed [] [] works) works (All-any works (λ work. refl))) refl
clearing-none at works (number ∷ cancel) let_go no_cancel no_let_go = absurd (omega (arith, no_cancel))
clearing-none at works [] (number ∷ let_go) no_cancel no_let_go = absurd (omega (arith, no_let_go))

-- and none takes the place of another, whichever are removed
pub none-replaced : (at : ℕ) (removed : List ℕ) (i : ℕ) (works : List Record) → replacements (cleared_by (pruning at removed)) i works ≡ []
none-replaced at removed i [] = refl
none-replaced at removed i (work ∷ works) =
    let change = cleared_by (pruning at removed) in
    let untouched : is_touched (pruning at removed) work ≡ false = and_right (stays removed work) _ (and_right (is_open work.phase) false refl) in
    ap (λ b. at_index i (cond b (Some (cleared (pruning at removed) work)) None) (replacements change (i + 1) works)) untouched
    ∙ none-replaced at removed (i + 1) works

-- as where none is cancelled and none loses its name
none-cleared-of : (at : ℕ) (cancelled unnamed removed : List ℕ) (works : List Record) → length cancelled ≡ 0 → length unnamed ≡ 0
    → replaced_by_clearing (record { cancelled = cancelled; at = at; unnamed = unnamed; removed = removed }) works ≡ []
none-cleared-of at [] [] removed works no_cancel no_unnamed = none-replaced at removed 0 works
none-cleared-of at (number ∷ cancelled) unnamed removed works no_cancel no_unnamed = absurd (omega (arith, no_cancel))
none-cleared-of at [] (number ∷ unnamed) removed works no_cancel no_unnamed = absurd (omega (arith, no_unnamed))

pub none-cleared : (clearing : Clearing) (works : List Record) → length clearing.cancelled ≡ 0 → length clearing.unnamed ≡ 0
    → replaced_by_clearing clearing works ≡ []
none-cleared clearing works no_cancel no_unnamed =
    none-cleared-of clearing.at clearing.cancelled clearing.unnamed clearing.removed works no_cancel no_unnamed

-- ---- the records made ready

-- letting go others once these are cancelled is what becomes of each record by itself
let_go-cleared : (at : ℕ) (works : List Record) (cancel let_go : List ℕ) → AllLater IsBefore works
    → with_let_go let_go (map (cancelled_in at (reached_from cancel (nodes_of works))) works) ≡ with_cleared (clearing_of at works cancel let_go) works
let_go-cleared at works cancel let_go order =
    let cancelled = reached_from cancel (nodes_of works) in
    let change = cancelled_in at cancelled in
    let gone = is_dropped let_go (map change works) in
    ap (map (unnamed let_go)) (filter-map (λ work. not (gone work)) change works)
    ∙ map-map (unnamed let_go) change (filter (λ work. not (gone (change work))) works) ∙ ap (map (λ work. unnamed let_go (change work)))
    (filter-same (λ work. not (gone (change work))) (λ work. not (is_removed cancelled let_go works work)) works (All-any works
    (λ work. ap not (dropped-then at cancelled let_go works work))) ∙ sym (stays-passing (is_removed cancelled let_go works) works order))

-- and so is a state made ready
pub made_ready-cleared : (s : State) (placing : Placing) → Valid s
    → made_ready s placing ≡ cleared_state (clearing_of s.now s.works placing.cancel placing.let_go) s
made_ready-cleared s placing valid =
    let found = reached_from placing.cancel (nodes_of s.works) in
    ap (λ (t : State). record t { works = with_let_go placing.let_go t.works }) (cancelled-state placing.cancel s valid)
    ∙ ap (λ (works : List Record). record s { works = works; runs = with_stopped (is_run_among found) s.runs })
    (let_go-cleared s.now s.works placing.cancel placing.let_go valid.works.in_order)

-- ---- the change

-- a record, without its name where it loses that
unnamed_each : (P : Record → Type 0) (numbers : List ℕ) (work : Record) → P (record work { name = None }) → P work → P (unnamed numbers work)
unnamed_each P numbers work hit miss = cond_both (is_among numbers work.seq) (record work { name = None }) work P (λ e. hit) (λ e. miss)

pub cleared-number : (clearing : Clearing) (work : Record) → (cleared clearing work).seq ≡ work.seq
cleared-number clearing work =
    unnamed_each (λ w. w.seq ≡ work.seq) clearing.unnamed (cancelled_in clearing.at clearing.cancelled work)
    (cancelled-number clearing.at clearing.cancelled work) (cancelled-number clearing.at clearing.cancelled work)

pub cleared-id : (clearing : Clearing) (work : Record) → (cleared clearing work).request.id ≡ work.request.id
cleared-id clearing work =
    let kept = cancelled_both (λ w. w.request.id ≡ work.request.id) clearing.at clearing.cancelled work refl refl in
    unnamed_each (λ w. w.request.id ≡ work.request.id) clearing.unnamed (cancelled_in clearing.at clearing.cancelled work) kept kept

pub cleared-phase : (clearing : Clearing) (work : Record) → (cleared clearing work).phase ≡ phase_then clearing.cancelled work
cleared-phase clearing work =
    let then = cancelled-phase clearing.at clearing.cancelled work in
    unnamed_each (λ w. w.phase ≡ phase_then clearing.cancelled work) clearing.unnamed (cancelled_in clearing.at clearing.cancelled work) then then

same-node : (work : Record) → MayReplace work work
same-node work = record { seq = refl; id = refl; name = inl refl; prior = refl; succeeded = λ is. is }

-- what is cancelled hadn't succeeded
cancelled-node : (at : ℕ) (cancelled : List ℕ) (work : Record) → MayReplace work (cancelled_in at cancelled work)
cancelled-node at cancelled work =
    cond_both (becomes_cancelled cancelled work) (closed how.Cancelled at work) work (MayReplace work)
    (λ e. record { seq = refl; id = refl; name = inl refl; prior = refl; succeeded = λ is. absurd (open_not_succeeded work.phase (and_parts _ _ e).0 is) }) (λ e. same-node work)

cleared-node : (clearing : Clearing) (work : Record) → MayReplace work (cleared clearing work)
cleared-node clearing work =
    let kept = cancelled-node clearing.at clearing.cancelled work in
    unnamed_each (MayReplace work) clearing.unnamed (cancelled_in clearing.at clearing.cancelled work)
    (record { seq = kept.seq; id = kept.id; name = inr refl; prior = kept.prior; succeeded = kept.succeeded }) kept

-- a record keeps its node
clearing-node : (clearing : Clearing) (work : Record) → MayReplace work (after_change (cleared_by clearing) work)
clearing-node clearing work =
    cond_both (is_touched clearing work) (Some (cleared clearing work)) None (λ (o : Option Record). MayReplace work (or_same work o))
    (λ e. cleared-node clearing work) (λ e. same-node work)

pub clearing-nodes : (clearing : Clearing) (works : List Record) → KeepNodes (cleared_by clearing) works
clearing-nodes clearing works = All-any works (clearing-node clearing)

-- a record that stays and isn't touched is as before
untouched-same : (clearing : Clearing) (work : Record) → (is_among clearing.unnamed work.seq || becomes_cancelled clearing.cancelled work) ≡ false
    → work ≡ cleared clearing work
untouched-same clearing work none =
    let parts = or_parts (is_among clearing.unnamed work.seq) (becomes_cancelled clearing.cancelled work) none in
    let open_same : cancelled_in clearing.at clearing.cancelled work ≡ work = ap (λ b. cond b (closed how.Cancelled clearing.at work) work) parts.1 in
    sym (ap (unnamed clearing.unnamed) open_same ∙ ap (λ b. cond b (record work { name = None }) work) parts.0)

-- what takes the place of a record that stays is what becomes of it
kept-cleared : (clearing : Clearing) (work : Record) → stays clearing.removed work ≡ true → after_change (cleared_by clearing) work ≡ cleared clearing work
kept-cleared clearing work kept =
    let changes = is_among clearing.unnamed work.seq || becomes_cancelled clearing.cancelled work in
    ap (λ b. or_same work (cond (b && changes) (Some (cleared clearing work)) None)) kept
    ∙ cond_both changes (Some (cleared clearing work)) None (λ (o : Option Record). or_same work o ≡ cleared clearing work)
    (λ e. refl) (λ e. untouched-same clearing work e)

-- the records that take the place of others and the numbers of those that are removed make it so
pub cleared-in_place : (clearing : Clearing) (works : List Record)
    → without clearing.removed (with_replaced (replaced_by_clearing clearing works) works) ≡ with_cleared clearing works
cleared-in_place clearing works =
    let change = after_change (cleared_by clearing) in
    ap (without clearing.removed) (replaced-all (cleared_by clearing) works) ∙ without-kept clearing.removed (map change works)
    ∙ filter-map (stays clearing.removed) change works ∙ ap (map change)
    (filter-same (λ work. stays clearing.removed (change work)) (stays clearing.removed) works (All-any works
    (λ work. ap (λ number. not (is_among clearing.removed number)) (clearing-node clearing work).seq)))
    ∙ map-kept change (cleared clearing) (stays clearing.removed) works (λ work kept. kept-cleared clearing work kept)
