-- The end of a work touches the works that it frees: those that the graph names where it succeeds, and else there are none.
use Rattle.std.proofs.Common.{◌≡◌, ℕ, ◌&&◌, Bool, true, false, cond, eqb, List, map, Option, Some, None, refl, sym, ◌∙◌, ap, subst}
use Rattle.std.specs.List.{AllByRecursion}
use Rattle.std.proofs.lemmas.Bool.{cond_both, eqb-true, false≢true}
use Rattle.std.proofs.lemmas.List.{append-nil}
use Rattle.wm_collections.proofs.Lists.{All-any, All-stored, All-with2, list_all-agree, list_any-agree, list_any_after, map-same}
use Rattle.wm_collections.specs.Lists.{HasOne, is_among}
use Rattle.wm_data.specs.declared.data.DataEntry.{DataEntry}
use Rattle.wm_graph.specs.Marks.{freed_by}
use Rattle.wm_machine.proofs.Endings.{freed_in, success}
use Rattle.wm_machine.proofs.Runnings.{changed}
use Rattle.wm_machine.specs.Closed.{closed, is_open}
use Rattle.wm_machine.specs.Ends.{ended_as, is_freed, not_started_as, retried, succeeded}
use Rattle.wm_machine.specs.First.{all_met, has_succeeded, is_succeeded, is_waiting}
use Rattle.wm_machine.specs.Runs.{changed_work}
use Rattle.wm_machine.specs.declared.event.End.{End}
use Rattle.wm_machine.specs.declared.event.End.TheVariants.{Success, Failure, Retry}
use Rattle.wm_machine.specs.declared.event.Event.{Event}
use Rattle.wm_machine.specs.declared.record.Phase.TheVariants as phase
use Rattle.wm_machine.specs.declared.record.Record.{Record}
use Rattle.wm_machine.specs.declared.state.State.{State}
use Rattle.wm_machine.specs.Valid.{Valid}
use Rattle.wm_runs.proofs.Reaching.{frees-agree}
use Rattle.wm_runs.specs.Reached.{change_by, end_reach, not_started_reach, reached_by, replaced_by}
use Rattle.wm_runs.specs.declared.reach.Reach.{Reach}
use Rattle.wm_runs.specs.declared.reach.Reach.TheVariants as reach
use Rattle.wm_schedule.specs.declared.schedule.Period.{Period}
use Rattle.wm_steps.proofs.ManyRows.{after_change, replaced-all, replaced-each, replaced-touched, unsucceeding-freeing, FreesTouched, KeepNodes}
use Rattle.wm_steps.proofs.Nodes.{freed-nodes}
use Rattle.wm_steps.proofs.Unsucceeding.{unsucceeding-not, Unsucceeding}
use Rattle.wm_changes.specs.Nodes.{nodes_of}
use Rattle.wm_changes.specs.Readiness.{TouchesFreed}
use Rattle.wm_changes.specs.Replacements.{or_same, replacements}
use Rattle.wm_changes.specs.StepChanges.{changed_state, replacing_all, with_replaced}
use Rattle.wm_changes.specs.Touched.{touches}
use Rattle.wm_changes.specs.declared.change.RunChange.{RunChange}
use Rattle.wm_changes.specs.declared.change.StepChange.{StepChange}

-- ---- where nothing succeeds

-- what is reached doesn't succeed
abbrev FailsAlone : Reach → Type 0
FailsAlone (reach.Closes way numbers now) = is_succeeded (phase.Done way) ≡ false
FailsAlone _ = Unit {0}

reached-not : (to : Reach) (work : Record) → FailsAlone to → Unsucceeding work (or_same work (reached_by to work))
reached-not reach.Stays work fails = λ is. is
reached-not (reach.Closes way numbers now) work fails =
    cond_both (is_open work.phase && is_among numbers work.seq) (Some (closed way now work)) None (λ (o : Option Record). Unsucceeding work (or_same work o))
    (λ e is. absurd (false≢true (sym fails ∙ is))) (λ e is. is)
reached-not (reach.Frees numbers now) work fails =
    cond_both (is_waiting work.phase && is_among numbers work.seq) (Some (record work { enqueued_at = now })) None
    (λ (o : Option Record). Unsucceeding work (or_same work o)) (λ e is. is) (λ e is. is)

-- a work that comes to an end without success frees none
unsucceeding-end : (s : State) (itself : Record) (to : Reach) (run : RunChange) (e : Event) → FailsAlone to → is_succeeded itself.phase ≡ false
    → KeepNodes (change_by itself to) s.works → FreesTouched s (replacing_all (replaced_by itself to s.works) run e)
unsucceeding-end s itself to run e fails not keeps =
    let made = replacing_all (replaced_by itself to s.works) run e in
    unsucceeding-freeing (change_by itself to) s.works (changed_state made s).works made keeps
    (All-any s.works (λ work. cond_both (eqb work.seq itself.seq) (Some itself) (reached_by to work)
    (λ (o : Option Record). Unsucceeding work (or_same work o)) (λ same is. absurd (false≢true (sym not ∙ is))) (λ other. reached-not to work fails)))

not_started-fails : (period : Option Period) (now : ℕ) (work : Record) → is_succeeded (not_started_as period now work).phase ≡ false
not_started-fails None now work = refl
not_started-fails (Some period) now work = refl

not_started-alone : (s : State) (period : Option Period) (seq : ℕ) → FailsAlone (not_started_reach period s.now seq (nodes_of s.works))
not_started-alone s None seq = refl
not_started-alone s (Some period) seq = tt

-- a work that can't start frees none
pub no_start-freeing : (s : State) (work : Record) (run : RunChange) (e : Event)
    → KeepNodes (change_by (not_started_as work.request.period s.now work) (not_started_reach work.request.period s.now work.seq (nodes_of s.works))) s.works
    → FreesTouched s (replacing_all (replaced_by (not_started_as work.request.period s.now work)
    (not_started_reach work.request.period s.now work.seq (nodes_of s.works)) s.works) run e)
no_start-freeing s work run e keeps =
    unsucceeding-end s (not_started_as work.request.period s.now work) (not_started_reach work.request.period s.now work.seq (nodes_of s.works)) run e
    (not_started-alone s work.request.period work.seq) (not_started-fails work.request.period s.now work) keeps

-- and one that is to be retried
pub retry-freeing : (s : State) (renewed : Bool) (work : Record) (run : RunChange) (e : Event)
    → KeepNodes (change_by (retried renewed s.now work) reach.Stays) s.works
    → FreesTouched s (replacing_all (replaced_by (retried renewed s.now work) reach.Stays s.works) run e)
retry-freeing s renewed work run e keeps = unsucceeding-end s (retried renewed s.now work) reach.Stays run e tt refl keeps

-- ---- a success

abbrev test : ℕ → Record → Bool
test number work = eqb work.seq number && is_succeeded work.phase

-- a record that is freed has succeeded where it had
freed-test : (now seq number : ℕ) (works : List Record) (work : Record) → test number (freed_in now seq works work) ≡ test number work
freed-test now seq number works work =
    cond_both (is_freed seq works work) (record work { enqueued_at = now }) work (λ (w : Record). test number w ≡ test number work) (λ e. refl) (λ e. refl)

success-met : (now seq : ℕ) (output : List DataEntry) (works : List Record) (number : ℕ)
    → has_succeeded (map (success now seq output works) works) number ≡ has_succeeded (changed_work (succeeded now output) seq works) number
success-met now seq output works number =
    let then = changed_work (succeeded now output) seq works in
    list_any_after (test number) (success now seq output works) works
    ∙ list_any-agree (λ work. test number (success now seq output works work)) (λ work. test number (changed (succeeded now output) seq work)) works
    (All-any works (λ work. freed-test now seq number then (changed (succeeded now output) seq work)))
    ∙ sym (list_any_after (test number) (changed (succeeded now output) seq) works)

and-then : (a b c d : Bool) → (a && (b && c)) ≡ true → c ≡ d → (a && (b && d)) ≡ true
and-then a b c d is same = subst (λ e. (a && (b && e)) ≡ true) same is

module _ (s : State) (work : Record) (output : List DataEntry) (run : RunChange) (e : Event) (valid : Valid s)
    (stored : HasOne (λ other. other ≡ work) s.works) where
  abbrev seq : ℕ
  seq = work.seq

  abbrev itself : Record
  itself = succeeded s.now output work

  abbrev to : Reach
  to = reach.Frees (freed_by (nodes_of s.works) seq) s.now

  abbrev touch : Record → Option Record
  touch = change_by itself to

  abbrev made : StepChange
  made = replacing_all (replacements touch 0 s.works) run e

  abbrev after : List Record
  after = (changed_state made s).works

  after-is : after ≡ map (success s.now seq output s.works) s.works
  after-is =
      append-nil (with_replaced (replacements touch 0 s.works) s.works) ∙ replaced-all touch s.works
      ∙ map-same (after_change touch) (success s.now seq output s.works) s.works
      (frees-agree s.now output work s.works valid.works.in_order valid.works.sound stored)

  after-met : (other : Record) → all_met after other ≡ all_met (changed_work (succeeded s.now output) seq s.works) other
  unfolding all_met
  after-met other =
      list_all-agree (has_succeeded after) (has_succeeded (changed_work (succeeded s.now output) seq s.works)) other.prior (All-any other.prior (λ number.
      ap (λ (works : List Record). has_succeeded works number) after-is ∙ success-met s.now seq output s.works number))

  -- what the graph frees is changed
  freed-changes : (other : Record) → (is_waiting other.phase && is_among (freed_by (nodes_of s.works) seq) other.seq) ≡ true
      → HasOne (λ w. w ≡ other) s.works → touches made other.seq ≡ true
  freed-changes other is there =
      cond_both (eqb other.seq itself.seq) (Some itself) (reached_by to other) (λ (o : Option Record). touch other ≡ o → touches made other.seq ≡ true)
      (λ same found. replaced-touched touch 0 s.works other itself there found (sym (eqb-true other.seq itself.seq same)))
      (λ differs found. replaced-touched touch 0 s.works other (record other { enqueued_at = s.now }) there
      (found ∙ ap (λ b. cond b (Some (record other { enqueued_at = s.now })) None) is) refl) refl

  -- a work that a success frees is touched
  freed-touched : AllByRecursion (λ other. is_freed seq after other ≡ true → touches made other.seq ≡ true) s.works
  freed-touched =
      All-with2 s.works (λ other there same freed.
      freed-changes other (same ∙ and-then _ _ _ _ freed (after-met other)) there) (All-stored s.works)
      (freed-nodes s.now seq output s.works valid.works.in_order valid.works.sound)

  pub success-freeing : KeepNodes touch s.works → FreesTouched s made
  success-freeing keeps =
      replaced-each (TouchesFreed s.works after made) touch 0 s.works
      (All-with2 s.works (λ other there keeps. cond_both (eqb other.seq itself.seq) (Some itself) (reached_by to other)
      (λ (o : Option Record). (or_same other o).seq ≡ other.seq → TouchesFreed s.works after made (or_same other o))
      (λ same kept is. freed-touched)
      (λ differs kept is. absurd (unsucceeding-not other (or_same other (reached_by to other)) s.works there kept (reached-not to other tt) is)) keeps.seq)
      (All-stored s.works) keeps)

-- the end of a run touches what it frees
pub end-freeing : (s : State) (renewed : Bool) (work : Record) (period : Option Period) (end : End) (run : RunChange) (e : Event) → Valid s
    → HasOne (λ other. other ≡ work) s.works
    → KeepNodes (change_by (ended_as period renewed s.now end work) (end_reach period s.now work.seq end (nodes_of s.works))) s.works
    → FreesTouched s (replacing_all (replaced_by (ended_as period renewed s.now end work) (end_reach period s.now work.seq end (nodes_of s.works)) s.works) run e)
end-freeing s renewed work None Retry run e valid stored keeps = unsucceeding-end s _ reach.Stays run e tt refl keeps
end-freeing s renewed work (Some period) Retry run e valid stored keeps = unsucceeding-end s _ reach.Stays run e tt refl keeps
end-freeing s renewed work (Some period) (Success output) run e valid stored keeps = unsucceeding-end s _ reach.Stays run e tt refl keeps
end-freeing s renewed work (Some period) (Failure output) run e valid stored keeps = unsucceeding-end s _ reach.Stays run e tt refl keeps
end-freeing s renewed work None (Success output) run e valid stored keeps = success-freeing s work output run e valid stored keeps
end-freeing s renewed work None (Failure output) run e valid stored keeps =
    unsucceeding-end s _ (end_reach None s.now work.seq (Failure output) (nodes_of s.works)) run e refl refl keeps
