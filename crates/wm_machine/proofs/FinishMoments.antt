-- What a step finishes has the moment of the step as the one at which it finished.
use Rattle.std.proofs.Common.{◌≡◌, ◌⊎◌, ℕ, Bool, true, false, not, cond, eqb, ltb, List, [], ◌∷◌, ◌++◌, ◌+◌, length, map, filter, Option, Some, None, refl, sym, ◌∙◌, ap, subst, inl, inr}
use Rattle.std.specs.Prelude.{count_by}
use Rattle.std.proofs.lemmas.Bool.{cond_both, false≢true, true≢false}
use Rattle.wm_collections.proofs.Lists.{All-append, All-filter, All-map, All-stored, All-weaker, one_gives}
use Rattle.wm_collections.specs.Lists.{is_among}
use Rattle.wm_conditions.specs.declared.conditions.Conditions.{Conditions}
use Rattle.wm_machine.specs.Cancelled.{cancelled, cancelled_each, is_stored, targeted, work_with_id}
use Rattle.wm_machine.specs.Closed.{closed, is_open, is_reached, with_closed, with_work_closed, with_works_closed}
use Rattle.wm_machine.specs.Ends.{end_of, enqueued_again, is_freed, period_of, retried, returned_of, succeeded, with_output, works_after_end, works_not_started}
use Rattle.wm_machine.specs.Enqueued.{carried_out, first_finished_at, first_phase, made_ready, new_record, outcome_by, placed_after, plan_in, prior_of, refusal_of, updated_by, with_work}
use Rattle.wm_machine.specs.Finished.{FinishedNow, FinishNow, WasNotFinished}
use Rattle.wm_machine.specs.First.{first_of, idle_instance, is_idle, is_live}
use Rattle.wm_machine.specs.Group.{is_dropped, with_let_go}
use Rattle.wm_machine.specs.Observed.{observed}
use Rattle.wm_machine.specs.Plan as plan
use Rattle.wm_machine.specs.Plan.{Placing, Plan}
use Rattle.wm_machine.specs.Pruned.{prunable}
use Rattle.wm_machine.specs.Queried.{answer_to}
use Rattle.wm_machine.specs.Quiet.{settled_by}
use Rattle.wm_machine.specs.Replied.{Outcome, unchanged}
use Rattle.wm_machine.specs.Retired.{with_retired}
use Rattle.wm_machine.specs.Runs.{changed_work, run_numbered, start_on, started}
use Rattle.wm_machine.specs.Settings.{conditioned, is_put_back_by, put_back}
use Rattle.wm_machine.specs.Step.{after, after_command, start_of, state_by, Step}
use Rattle.wm_machine.specs.Turns.{telling, turn_of}
use Rattle.wm_machine.specs.Types.{Command, DataEntry, End, Event, How, Instance, Node, Period, Phase, Record, Refusal, Run, State, Target, UniqueName}
use Rattle.wm_machine.specs.declared.state.WorkQuery.{WorkQuery}
use Rattle.wm_machine.specs.Updated.{is_same_kind, update_by, update_of, updated}
use Rattle.wm_machine.specs.declared.command.Command.TheVariants as command
use Rattle.wm_machine.specs.declared.command.Target.TheVariants as target
use Rattle.wm_machine.specs.declared.event.End.TheVariants.{Success, Failure, Retry}
use Rattle.wm_machine.specs.declared.event.Event.TheVariants as event
use Rattle.wm_machine.specs.declared.record.How.TheVariants as how
use Rattle.wm_machine.specs.declared.record.Phase.TheVariants as phase
use Rattle.wm_machine.specs.declared.reply.Applied.TheVariants.{NotApplied}
use Rattle.wm_machine.specs.declared.reply.Refusal.TheVariants as refusal
use Rattle.wm_machine.specs.declared.reply.Reply.TheVariants as reply
use Rattle.wm_request.specs.Requests.{RequestFields}

-- ---- one record

-- a change of a record at this moment: where the record is finished after it, it finished now, or was finished and keeps its moment
record Dates (now : ℕ) (one other : Record) : Type 0 where
  seq : other.seq ≡ one.seq
  moment : is_open other.phase ≡ false → (other.finished_at ≡ now) ⊎ ((is_open one.phase ≡ false) × (other.finished_at ≡ one.finished_at))

-- what is unfinished has nothing to keep
Dates-open : (now : ℕ) (one other : Record) → other.seq ≡ one.seq → is_open other.phase ≡ true → Dates now one other
Dates-open now one other seq unfinished = record { seq = seq; moment = λ done. absurd (false≢true (sym done ∙ unfinished)) }

Dates-now : (now : ℕ) (one other : Record) → other.seq ≡ one.seq → other.finished_at ≡ now → Dates now one other
Dates-now now one other seq finished = record { seq = seq; moment = λ done. inl finished }

Dates-kept : (now : ℕ) (one other : Record) → other.seq ≡ one.seq → other.phase ≡ one.phase → other.finished_at ≡ one.finished_at → Dates now one other
Dates-kept now one other seq phase_is finished = record { seq = seq; moment = λ done. inr (sym (ap is_open phase_is) ∙ done, finished) }

-- so it finished now, if it did, where it had before the change
finished_still : (now : ℕ) (before : List Record) (one other : Record) → Dates now one other → FinishedNow now before one → FinishedNow now before other
finished_still now before one other dates finished done was =
    elim (dates.moment done) [ inl is ↦ is | inr both ↦ both.1 ∙ finished both.0 (subst (WasNotFinished before) dates.seq was) ]

-- ---- records

-- of the records themselves none has finished
none_finish : (now : ℕ) (works : List Record) → FinishNow now works works
none_finish now works =
    All-weaker works (λ work there done was. one_gives works (λ other unfinished same.
    absurd (false≢true (sym done ∙ sym (ap (λ (w : Record). is_open w.phase) same) ∙ unfinished (ap (λ (w : Record). w.seq) same)))) was there)
    (All-stored works)

-- a change of some of the records
finish-some : (now : ℕ) (before works : List Record) (test : Record → Bool) (change : Record → Record) → ((work : Record) → Dates now work (change work))
    → FinishNow now before works → FinishNow now before (map (λ work. cond (test work) (change work) work) works)
finish-some now before works test change dates all =
    All-map _ (λ work. cond (test work) (change work) work) works (λ work is. cond_both (test work) (change work) work (FinishedNow now before)
    (λ e. finished_still now before work (change work) (dates work) is) (λ e. is)) all

-- the removal of some
finish-filter : (now : ℕ) (before works : List Record) (test : Record → Bool) → FinishNow now before works → FinishNow now before (filter test works)
finish-filter now before works test all = All-filter test works (λ work e is. is) all

-- the change of one
finish-one : (now : ℕ) (before works : List Record) (change : Record → Record) (seq : ℕ) → ((work : Record) → Dates now work (change work))
    → FinishNow now before works → FinishNow now before (changed_work change seq works)
finish-one now before works change seq dates all = finish-some now before works (λ work. eqb work.seq seq) change dates all

-- a closing
finish-closed : (now : ℕ) (before works : List Record) (how : How) (seq : ℕ) → FinishNow now before works → FinishNow now before (with_closed how now seq works)
finish-closed now before works how seq all =
    finish-some now before works (is_reached seq works) (closed how now) (λ work. Dates-now now work (closed how now work) refl refl) all

-- ---- the end of a run, and a start that fails

-- a work that waits again
finish-again : (renewed : Bool) (now : ℕ) (works : List Record) (seq : ℕ) → FinishNow now works (changed_work (enqueued_again renewed now) seq works)
finish-again renewed now works seq =
    let back = enqueued_again renewed now in
    finish-one now works works back seq (λ work. Dates-open now work (back work) refl refl) (none_finish now works)

finish-end : (renewed : Bool) (now seq : ℕ) (period : Option Period) (end : End) (works : List Record)
    → FinishNow now works (works_after_end renewed now seq period end works)
finish-end renewed now seq period Retry works =
    let back = retried renewed now in
    finish-one now works works back seq (λ work. Dates-open now work (back work) refl refl) (none_finish now works)
finish-end renewed now seq (Some period) (Success output) works = finish-again renewed now works seq
finish-end renewed now seq (Some period) (Failure output) works = finish-again renewed now works seq
finish-end renewed now seq None (Success output) works =
    let then = changed_work (succeeded now output) seq works in
    finish-some now works then (is_freed seq then) (λ work. record work { enqueued_at = now })
    (λ work. Dates-kept now work (record work { enqueued_at = now }) refl refl refl)
    (finish-one now works works (succeeded now output) seq (λ work. Dates-now now work (succeeded now output work) refl refl) (none_finish now works))
finish-end renewed now seq None (Failure output) works =
    finish-one now works (with_closed how.Failed now seq works) (with_output output) seq
    (λ work. Dates-kept now work (with_output output work) refl refl refl) (finish-closed now works works how.Failed seq (none_finish now works))

finish-not_started : (now seq : ℕ) (period : Option Period) (works : List Record) → FinishNow now works (works_not_started now seq period works)
finish-not_started now seq None works = finish-closed now works works how.Failed seq (none_finish now works)
finish-not_started now seq (Some period) works = finish-again false now works seq

-- ---- what a step makes of a state

-- what is finished in a state, and wasn't in this one, finished now
abbrev FinishesNow : State → State → Type 0
FinishesNow s t = FinishNow s.now s.works t.works

stays : (s : State) → FinishesNow s s
stays s = none_finish s.now s.works

finish-start_on : (s : State) (work : Record) (idle : Option Instance) (input : List DataEntry) → FinishesNow s (start_on s work idle input)
finish-start_on s work None input = stays s
finish-start_on s work (Some instance) input =
    finish-one s.now s.works s.works started work.seq (λ other. Dates-open s.now other (started other) refl refl) (stays s)

finish-start : (s : State) (first : Option Record) (input : List DataEntry) → FinishesNow s (start_of s first input)
finish-start s None input = stays s
finish-start s (Some work) input = finish-start_on s work (idle_instance s.instances work.request.class) input

Dates-telling : (now : ℕ) (progress : Option (List DataEntry)) (work : Record) → Dates now work (telling progress work)
Dates-telling now None work = Dates-kept now work work refl refl refl
Dates-telling now (Some progress) work = Dates-kept now work (telling (Some progress) work) refl refl refl

finish-turn : (s : State) (run : Option Run) (progress : Option (List DataEntry)) → FinishesNow s (turn_of s run progress)
finish-turn s None progress = stays s
finish-turn s (Some run) progress = finish-one s.now s.works s.works (telling progress) run.seq (Dates-telling s.now progress) (stays s)

finish-run : (s : State) (run : Option Run) (end : End) → FinishesNow s (end_of s run end)
finish-run s None end = stays s
finish-run s (Some run) end = finish-end run.renewed s.now run.seq (period_of run.seq s.works) end s.works

finish-returned : (s : State) (run : Option Run) → FinishesNow s (returned_of s run)
finish-returned s None = stays s
finish-returned s (Some run) = stays s

-- ---- works are closed one after another

-- and the moment stays
record ClosesNow (before : List Record) (s t : State) : Type 0 where
  now : t.now ≡ s.now
  works : FinishNow s.now before t.works

closes-each : (before : List Record) (how : How) (seqs : List ℕ) (s : State) → FinishNow s.now before s.works
    → ClosesNow before s (with_works_closed how seqs s)
closes-each before how [] s all = record { now = refl; works = all }
closes-each before how (seq ∷ seqs) s all =
    let then = with_work_closed how seq s in
    let rest = closes-each before how seqs then (finish-closed s.now before s.works how seq all) in
    record { now = rest.now; works = rest.works }

finish-cancelled : (s : State) (target : Target) → FinishesNow s (cancelled s target).state
finish-cancelled s (target.Id id) =
    cond_both (is_stored s.works id) (cancelled_each s (targeted (target.Id id) s.works)) (unchanged s (reply.Refused (refusal.NoSuchWork id)))
    (λ (o : Outcome). FinishesNow s o.state) (λ e. (closes-each s.works how.Cancelled (targeted (target.Id id) s.works) s (stays s)).works) (λ e. stays s)
finish-cancelled s (target.Tag tag) = (closes-each s.works how.Cancelled (targeted (target.Tag tag) s.works) s (stays s)).works
finish-cancelled s (target.Name name) = (closes-each s.works how.Cancelled (targeted (target.Name name) s.works) s (stays s)).works
finish-cancelled s target.All = (closes-each s.works how.Cancelled (targeted target.All s.works) s (stays s)).works

-- ---- an enqueue

-- a new work that is finished already finished now
placed_now : (p : Phase) (now : ℕ) → is_open p ≡ false → first_finished_at p now ≡ now
placed_now phase.Waiting now done = absurd (true≢false done)
placed_now phase.Running now done = absurd (true≢false done)
placed_now (phase.Done how) now done = refl

finish-placed : (before : List Record) (s : State) (name : Option (List ℕ)) (after : List ℕ) (nodes : List Node) → FinishNow s.now before s.works
    → FinishNow s.now before (placed_after s name after nodes).works
finish-placed before s name after [] all = all
finish-placed before s name after (node ∷ nodes) all =
    let prior = prior_of s.works after node.after in
    let new = new_record s name prior node in
    finish-placed before (with_work s new) name after nodes
    (All-append _ s.works (new ∷ []) all (λ done was. placed_now (first_phase s.works prior) s.now done, tt))

-- a group is let go
finish-let_go : (now : ℕ) (before works : List Record) (numbers : List ℕ) → FinishNow now before works → FinishNow now before (with_let_go numbers works)
finish-let_go now before works numbers all =
    let left = filter (λ work. not (is_dropped numbers works work)) works in
    finish-some now before left (λ work. is_among numbers work.seq) (λ work. record work { name = None })
    (λ work. Dates-kept now work (record work { name = None }) refl refl refl)
    (finish-filter now before works (λ work. not (is_dropped numbers works work)) all)

finish-ready : (s : State) (placing : Placing) → ClosesNow s.works s (made_ready s placing)
finish-ready s placing =
    let closes = closes-each s.works how.Cancelled placing.cancel s (stays s) in
    record {
      now = closes.now;
      works = finish-let_go s.now s.works (with_works_closed how.Cancelled placing.cancel s).works placing.let_go closes.works;
    }

finish-update_of : (s : State) (request : RequestFields) (work : Record) → FinishesNow s (update_of s request work).state
finish-update_of s request work =
    finish-one s.now s.works s.works (updated request) work.seq (λ other. Dates-kept s.now other (updated request other) refl refl refl) (stays s)

finish-updated : (s : State) (member : Record) (works : List Node) → FinishesNow s (updated_by s member works).state
finish-updated s member [] = stays s
finish-updated s member (work ∷ works) = finish-update_of s work.request member

finish-carried : (p : Plan) (s : State) (name : List ℕ) (works : List Node) → FinishesNow s (carried_out p s name works).state
finish-carried plan.Keeps s name works = stays s
finish-carried (plan.Updates member) s name works = finish-updated s member works
finish-carried (plan.Places placing) s name works =
    let ready = made_ready s placing in
    let closes = finish-ready s placing in
    subst (λ now. FinishNow now s.works (placed_after ready (Some name) placing.after works).works) closes.now
    (finish-placed s.works ready (Some name) placing.after works
    (subst (λ now. FinishNow now s.works ready.works) (sym closes.now) closes.works))

finish-enqueued : (s : State) (found : Option Refusal) (named : Option UniqueName) (works : List Node)
    → FinishesNow s (outcome_by found s named works).state
finish-enqueued s (Some found) named works = stays s
finish-enqueued s None None works = finish-placed s.works s None [] works (stays s)
finish-enqueued s None (Some unique) works = finish-carried (plan_in s unique) s unique.name works

-- ---- the other commands

finish-update : (s : State) (request : RequestFields) (found : Option Record) → FinishesNow s (update_by s request found).state
finish-update s request None = stays s
finish-update s request (Some work) =
    let refused = unchanged s (reply.Refused (refusal.KindMismatch request.id)) in
    let done = unchanged s (reply.Updated NotApplied work.generation) in
    let same = is_same_kind request.period work.request.period in
    cond_both (is_open work.phase) (cond same (update_of s request work) refused) done (λ (o : Outcome). FinishesNow s o.state)
    (λ e. cond_both same (update_of s request work) refused (λ (o : Outcome). FinishesNow s o.state) (λ f. finish-update_of s request work) (λ f. stays s))
    (λ e. stays s)

-- a command that leaves the records
finish-cond : (s : State) (test : Bool) (one other : Outcome) → FinishesNow s one.state → FinishesNow s other.state
    → FinishesNow s (cond test one other).state
finish-cond s test one other hit miss = cond_both test one other (λ (o : Outcome). FinishesNow s o.state) (λ e. hit) (λ e. miss)

finish-conditioned : (s : State) (conditions : Conditions) → FinishesNow s (conditioned s conditions).state
finish-conditioned s conditions =
    finish-some s.now s.works s.works (is_put_back_by conditions s.runs) put_back (λ work. Dates-open s.now work (put_back work) refl refl) (stays s)

finish-settled : (s : State) (first : Option Record) (runs : List Run) → FinishesNow s (state_by s (settled_by s first runs))
finish-settled s None [] = stays s
finish-settled s None (run ∷ runs) = stays s
finish-settled s (Some work) runs = stays s

finish-observed : (s : State) (query : WorkQuery) → FinishesNow s (observed s query).state
finish-observed s query =
    finish-cond s (ltb (length s.observers) 100) (record {
      reply = reply.Observing (length s.observers + 1) (answer_to s query);
      state = record s { observers = s.observers ++ query ∷ [] };
    }) (unchanged s (reply.Refused (refusal.TooManyObservers (length s.observers)))) (stays s) (stays s)

finish-command : (s : State) (asked : Command) → FinishesNow s (after_command s asked)
finish-command s (command.Enqueue named batch) = finish-enqueued s (refusal_of s named batch.works) named batch.works
finish-command s (command.Cancel target) = finish-cancelled s target
finish-command s (command.Update request) = finish-update s request (work_with_id s.works request.id)
finish-command s (command.Moment at) =
    finish-cond s (ltb at s.now) (unchanged s (reply.Refused (refusal.MomentBack s.now))) (record { reply = reply.Moment; state = record s { now = at } })
    (stays s) (stays s)
finish-command s (command.Conditions conditions) = finish-conditioned s conditions
finish-command s (command.Prune force) = finish-filter s.now s.works s.works (λ work. not (prunable s force work)) (stays s)
finish-command s (command.Query query) = stays s
finish-command s (command.Observe query) = finish-observed s query
finish-command s (command.Retire class) =
    finish-cond s (is_live s.instances class)
    (record { reply = reply.Retired (count_by (is_idle class) s.instances); state = record s { instances = with_retired class s.instances } })
    (unchanged s (reply.Refused refusal.NoSuchClass)) (stays s) (stays s)
finish-command s command.Settle = finish-settled s (first_of s) s.runs
finish-command s command.Hush = stays s
finish-command s command.Summary = stays s
finish-command s (command.Faulty fault) = stays s

-- ---- a step

finish-after : (s : State) (e : Event) → FinishesNow s (after s e)
finish-after s (event.Command line asked answer) = finish-command s asked
finish-after s (event.Start run seq instance input) = finish-start s (first_of s) input
finish-after s (event.StartFailed seq cause) = finish-not_started s.now seq (period_of seq s.works) s.works
finish-after s (event.Turn run progress) = finish-turn s (run_numbered run s.runs) progress
finish-after s (event.Finish run end) = finish-run s (run_numbered run s.runs) end
finish-after s (event.TimedOut run) = finish-run s (run_numbered run s.runs) Retry
finish-after s (event.Late run) = finish-returned s (run_numbered run s.runs)

pub finish_now : (s t : State) (e : Event) → Step s e t → FinishesNow s t
finish_now s t e step = subst (FinishesNow s) (sym step.1) (finish-after s e)
