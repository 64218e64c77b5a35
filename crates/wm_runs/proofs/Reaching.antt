-- What is touched where a work comes to an end, and that the machine changes just that.
use Rattle.std.proofs.Common.{◌≡◌, ℕ, ◌&&◌, Bool, true, false, cond, eqb, List, [], ◌∷◌, Option, Some, None, refl, sym, ◌∙◌, ap, subst, inl}
use Rattle.std.specs.List.{AllByRecursion}
use Rattle.std.proofs.lemmas.Bool.{and_parts, cond_both, eq-eqb, eqb-false, eqb-true, ne_eqb}
use Rattle.wm_collections.specs.Lists.{AllLater, HasOne, is_among}
use Rattle.wm_data.specs.declared.data.DataEntry.{DataEntry}
use Rattle.wm_machine.specs.declared.event.End.{End}
use Rattle.wm_machine.specs.declared.record.How.{How}
use Rattle.wm_schedule.specs.declared.schedule.Period.{Period}
use Rattle.wm_machine.specs.declared.record.Record.{Record}
use Rattle.wm_graph.specs.Marks.{freed_by}
use Rattle.wm_machine.proofs.Endings.{closed_in, end_by, freed_in, not_started_by, success}
use Rattle.wm_collections.proofs.Lists.{All-any, All-weaker, All-with2}
use Rattle.wm_machine.proofs.Runnings.{changed, IsAlone-stored}
use Rattle.wm_machine.specs.Closed.{closed, is_open, is_reached}
use Rattle.wm_machine.specs.Ends.{ended_as, enqueued_again, is_freed, not_started_as, retried, succeeded, with_output}
use Rattle.wm_machine.specs.First.{is_waiting}
use Rattle.wm_machine.specs.Runs.{changed_work}
use Rattle.wm_machine.specs.Valid.{ArePriorSound, IsBefore}
use Rattle.wm_machine.specs.declared.event.End.TheVariants.{Success, Failure, Retry}
use Rattle.wm_machine.specs.declared.record.How.TheVariants as how
use Rattle.wm_runs.specs.Reached.{change_by, end_reach, not_started_reach, reached_by}
use Rattle.wm_runs.specs.declared.reach.Reach.{Reach}
use Rattle.wm_runs.specs.declared.reach.Reach.TheVariants as reach
use Rattle.wm_steps.proofs.ManyRows.{after_change}
use Rattle.wm_steps.proofs.Nodes.{freed-nodes, itself_reached, open_not_succeeded}
use Rattle.wm_steps.proofs.ReachedNodes.{reached-test}
use Rattle.wm_changes.specs.Nodes.{nodes_of, reached_from}
use Rattle.wm_changes.specs.Replacements.{or_same, MayReplace}

-- ---- a change of some records

-- a record is of the same work as another
pub record IsSameWork (work itself : Record) : Type 0 where
  pub seq : itself.seq ≡ work.seq
  pub id : itself.request.id ≡ work.request.id
  pub name : itself.name ≡ work.name
  pub prior : itself.prior ≡ work.prior

-- a record that is changed where a test says so
or_same-cond : (test : Bool) (work new : Record) → or_same work (cond test (Some new) None) ≡ cond test new work
or_same-cond true work new = refl
or_same-cond false work new = refl

-- each keeps its node, and what has succeeded stays so
reached-keeps : (to : Reach) (work : Record) → MayReplace work (or_same work (reached_by to work))
reached-keeps reach.Stays work = record { seq = refl; id = refl; name = inl refl; prior = refl; succeeded = λ is. is }
reached-keeps (reach.Closes way numbers now) work =
    cond_both (is_open work.phase && is_among numbers work.seq) (Some (closed way now work)) None (λ (o : Option Record). MayReplace work (or_same work o))
    (λ e. record { seq = refl; id = refl; name = inl refl; prior = refl; succeeded = λ is. absurd (open_not_succeeded work.phase (and_parts _ _ e).0 is) })
    (λ e. record { seq = refl; id = refl; name = inl refl; prior = refl; succeeded = λ is. is })
reached-keeps (reach.Frees numbers now) work =
    cond_both (is_waiting work.phase && is_among numbers work.seq) (Some (record work { enqueued_at = now })) None
    (λ (o : Option Record). MayReplace work (or_same work o)) (λ e. record { seq = refl; id = refl; name = inl refl; prior = refl; succeeded = λ is. is })
    (λ e. record { seq = refl; id = refl; name = inl refl; prior = refl; succeeded = λ is. is })

-- What holds of the record that is stored under a number, and of those of other numbers, holds of each. The record may have been changed.
itself-or-other : (P : Record → Option Record → Type 0) (itself work : Record) (to : Reach) (works : List Record) → AllLater IsBefore works
    → HasOne (λ other. other ≡ work) works → itself.seq ≡ work.seq → P work (Some itself)
    → AllByRecursion (λ w. (w.seq ≡ work.seq → ⊥) → P w (reached_by to w)) works → AllByRecursion (λ w. P w (change_by itself to w)) works
itself-or-other P itself work to works order stored same here others =
    All-with2 works (λ w alone one. cond_both (eqb w.seq itself.seq) (Some itself) (reached_by to w) (P w)
    (λ e. subst (λ w. P w (Some itself)) (sym (alone (eqb-true w.seq itself.seq e ∙ same))) here)
    (λ e. one (λ also. eqb-false w.seq itself.seq e (also ∙ sym same)))) (IsAlone-stored work works order stored) others

-- the work that comes to an end keeps its node, as all others do
pub change-keeps : (itself work : Record) (to : Reach) (works : List Record) → AllLater IsBefore works → HasOne (λ other. other ≡ work) works
    → is_open work.phase ≡ true → IsSameWork work itself
    → AllByRecursion (λ w. MayReplace w (after_change (change_by itself to) w)) works
change-keeps itself work to works order stored unfinished same =
    itself-or-other (λ w o. MayReplace w (or_same w o)) itself work to works order stored same.seq
    (record { seq = same.seq; id = same.id; name = inl same.name; prior = same.prior; succeeded = λ is. absurd (open_not_succeeded work.phase unfinished is) })
    (All-any works (λ w differs. reached-keeps to w))

-- a change of one record leaves those of other numbers
changed-miss : (change : Record → Record) (seq : ℕ) (work : Record) → (work.seq ≡ seq → ⊥) → changed change seq work ≡ work
changed-miss change seq work differs = ap (λ b. cond b (change work) work) (ne_eqb work.seq seq (λ e. absurd (differs e)))

changed-hit : (change : Record → Record) (seq : ℕ) (work : Record) → work.seq ≡ seq → changed change seq work ≡ change work
changed-hit change seq work same = ap (λ b. cond b (change work) work) (eq-eqb work.seq seq same)

-- ---- one record alone

pub stays-agree : (change : Record → Record) (itself work : Record) (works : List Record) → AllLater IsBefore works → HasOne (λ other. other ≡ work) works
    → itself.seq ≡ work.seq → itself ≡ change work → AllByRecursion (λ w. after_change (change_by itself reach.Stays) w ≡ changed change work.seq w) works
stays-agree change itself work works order stored same is =
    itself-or-other (λ w o. or_same w o ≡ changed change work.seq w) itself work reach.Stays works order stored same
    (is ∙ sym (changed-hit change work.seq work refl)) (All-any works (λ w differs. sym (changed-miss change work.seq w differs)))

-- ---- the descendants

closes-other : (way : How) (now seq : ℕ) (works : List Record) (work : Record)
    → or_same work (reached_by (reach.Closes way (reached_from (seq ∷ []) (nodes_of works)) now) work) ≡ closed_in way now seq works work
closes-other way now seq works work =
    or_same-cond (is_open work.phase && is_among (reached_from (seq ∷ []) (nodes_of works)) work.seq) work (closed way now work)
    ∙ ap (λ b. cond b (closed way now work) work) (reached-test seq works work)

-- a work is closed with its unfinished descendants, and then it may get an output
pub closes-agree : (way : How) (now : ℕ) (then : Record → Record) (itself work : Record) (works : List Record) → AllLater IsBefore works
    → HasOne (λ other. other ≡ work) works → is_open work.phase ≡ true → itself.seq ≡ work.seq → itself ≡ then (closed way now work)
    → ((other : Record) → (other.seq ≡ work.seq → ⊥) → then other ≡ other)
    → AllByRecursion (λ w. after_change (change_by itself (reach.Closes way (reached_from (work.seq ∷ []) (nodes_of works)) now)) w
    ≡ then (closed_in way now work.seq works w)) works
closes-agree way now then itself work works order stored unfinished same is others =
    let to = reach.Closes way (reached_from (work.seq ∷ []) (nodes_of works)) now in
    itself-or-other (λ w o. or_same w o ≡ then (closed_in way now work.seq works w)) itself work to works order stored same
    (is ∙ ap (λ b. then (cond b (closed way now work) work)) (sym (itself_reached work works stored unfinished))) (All-any works (λ w differs.
    closes-other way now work.seq works w ∙ sym (others (closed_in way now work.seq works w)
    (λ e. differs (cond_both (is_reached work.seq works w) (closed way now w) w (λ c. c.seq ≡ work.seq → w.seq ≡ work.seq) (λ r s. s) (λ r s. s) e)))))

-- ---- a success

frees-other : (now seq : ℕ) (output : List DataEntry) (works : List Record) (work : Record)
    → (is_waiting work.phase && is_among (freed_by (nodes_of works) seq) work.seq) ≡ is_freed seq (changed_work (succeeded now output) seq works) work
    → (work.seq ≡ seq → ⊥) → or_same work (reached_by (reach.Frees (freed_by (nodes_of works) seq) now) work) ≡ success now seq output works work
frees-other now seq output works work test differs =
    let then = changed_work (succeeded now output) seq works in
    let free : Record = record work { enqueued_at = now } in
    or_same-cond (is_waiting work.phase && is_among (freed_by (nodes_of works) seq) work.seq) work free ∙ ap (λ b. cond b free work) test
    ∙ ap (freed_in now seq then) (sym (changed-miss (succeeded now output) seq work differs))

pub frees-agree : (now : ℕ) (output : List DataEntry) (work : Record) (works : List Record) → AllLater IsBefore works
    → AllByRecursion (λ w. ArePriorSound works w.phase w.prior) works → HasOne (λ other. other ≡ work) works
    → AllByRecursion (λ w. after_change (change_by (succeeded now output work) (reach.Frees (freed_by (nodes_of works) work.seq) now)) w
    ≡ success now work.seq output works w) works
frees-agree now output work works order sound stored =
    let to = reach.Frees (freed_by (nodes_of works) work.seq) now in
    let then = changed_work (succeeded now output) work.seq works in
    itself-or-other (λ w o. or_same w o ≡ success now work.seq output works w) (succeeded now output work) work to works order stored refl
    (ap (freed_in now work.seq then) (sym (changed-hit (succeeded now output) work.seq work refl)))
    (All-weaker works (λ w test differs. frees-other now work.seq output works w test differs) (freed-nodes now work.seq output works order sound))

-- ---- the ends

-- the work of a run that ends keeps its number and its prerequisites
pub ended-same : (period : Option Period) (renewed : Bool) (now : ℕ) (end : End) (work : Record) → IsSameWork work (ended_as period renewed now end work)
ended-same None renewed now Retry work = record { seq = refl; id = refl; name = refl; prior = refl }
ended-same None renewed now (Success output) work = record { seq = refl; id = refl; name = refl; prior = refl }
ended-same None renewed now (Failure output) work = record { seq = refl; id = refl; name = refl; prior = refl }
ended-same (Some period) renewed now Retry work = record { seq = refl; id = refl; name = refl; prior = refl }
ended-same (Some period) renewed now (Success output) work = record { seq = refl; id = refl; name = refl; prior = refl }
ended-same (Some period) renewed now (Failure output) work = record { seq = refl; id = refl; name = refl; prior = refl }

-- and so does one that can't start
pub not_started-same : (period : Option Period) (now : ℕ) (work : Record) → IsSameWork work (not_started_as period now work)
not_started-same None now work = record { seq = refl; id = refl; name = refl; prior = refl }
not_started-same (Some period) now work = record { seq = refl; id = refl; name = refl; prior = refl }

-- the end of a run changes just what is touched
pub end-agree : (period : Option Period) (renewed : Bool) (now : ℕ) (end : End) (work : Record) (works : List Record) → AllLater IsBefore works
    → AllByRecursion (λ w. ArePriorSound works w.phase w.prior) works → HasOne (λ other. other ≡ work) works → is_open work.phase ≡ true
    → AllByRecursion (λ w. after_change (change_by (ended_as period renewed now end work) (end_reach period now work.seq end (nodes_of works))) w
    ≡ end_by renewed now work.seq period end works w) works
end-agree None renewed now Retry work works order sound stored unfinished =
    stays-agree (retried renewed now) (retried renewed now work) work works order stored refl refl
end-agree (Some period) renewed now Retry work works order sound stored unfinished =
    stays-agree (retried renewed now) (retried renewed now work) work works order stored refl refl
end-agree (Some period) renewed now (Success output) work works order sound stored unfinished =
    stays-agree (enqueued_again renewed now) (enqueued_again renewed now work) work works order stored refl refl
end-agree (Some period) renewed now (Failure output) work works order sound stored unfinished =
    stays-agree (enqueued_again renewed now) (enqueued_again renewed now work) work works order stored refl refl
end-agree None renewed now (Success output) work works order sound stored unfinished = frees-agree now output work works order sound stored
end-agree None renewed now (Failure output) work works order sound stored unfinished =
    closes-agree how.Failed now (changed (with_output output) work.seq) (with_output output (closed how.Failed now work)) work works order stored unfinished refl
    (sym (changed-hit (with_output output) work.seq (closed how.Failed now work) refl)) (λ other differs. changed-miss (with_output output) work.seq other differs)

-- and so does a failed start
pub no_start-agree : (period : Option Period) (now : ℕ) (work : Record) (works : List Record) → AllLater IsBefore works
    → HasOne (λ other. other ≡ work) works → is_open work.phase ≡ true
    → AllByRecursion (λ w. after_change (change_by (not_started_as period now work) (not_started_reach period now work.seq (nodes_of works))) w
    ≡ not_started_by now work.seq period works w) works
no_start-agree None now work works order stored unfinished =
    closes-agree how.Failed now (λ w. w) (closed how.Failed now work) work works order stored unfinished refl refl (λ other differs. refl)
no_start-agree (Some period) now work works order stored unfinished =
    stays-agree (enqueued_again false now) (enqueued_again false now work) work works order stored refl refl
