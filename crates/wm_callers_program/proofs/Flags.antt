-- What no event changes but a line that observes or hushes: who observes, and whether only summaries are written.
use Rattle.std.proofs.Common.{◌≡◌, ◌||◌, ℕ, cond, ltb, Bool, true, false, List, [], ◌∷◌, ◌++◌, Option, Some, None, refl, ap, ◌∙◌}
use Rattle.std.specs.Prelude.{count_by}
use Rattle.std.proofs.lemmas.Bool.{cond_both}
use Rattle.std.specs.List.{AllByRecursion}
use Rattle.wm_callers_program.specs.LogTexts.{hushes, is_hush, plain_text, AddsNoObserver, IsNoObserve}
use Rattle.wm_data.specs.declared.data.DataEntry.{DataEntry}
use Rattle.wm_machine.specs.Cancelled.{cancelled, cancelled_each, is_stored, targeted, work_with_id}
use Rattle.wm_machine.specs.Closed.{is_open, with_work_closed, with_works_closed}
use Rattle.wm_machine.specs.Ends.{end_of, returned_of}
use Rattle.wm_machine.specs.Enqueued.{carried_out, made_ready, new_record, outcome_by, placed_after, plan_in, prior_of, refusal_of, updated_by, with_work}
use Rattle.wm_machine.specs.First.{first_of, idle_instance, is_idle, is_live}
use Rattle.wm_machine.specs.Plan as plan
use Rattle.wm_machine.specs.Plan.{Plan}
use Rattle.wm_machine.specs.Quiet.{settled_by}
use Rattle.wm_machine.specs.Replied.{unchanged, Outcome}
use Rattle.wm_machine.specs.Retired.{with_retired}
use Rattle.wm_machine.specs.Runs.{run_numbered, start_on}
use Rattle.wm_machine.specs.Step.{after, after_command, start_of, state_by}
use Rattle.wm_machine.specs.Turns.{turn_of}
use Rattle.wm_machine.specs.Updated.{is_same_kind, update_by, update_of}
use Rattle.wm_machine.specs.declared.command.Command.{Command}
use Rattle.wm_machine.specs.declared.command.Command.TheVariants as command
use Rattle.wm_machine.specs.declared.command.Target.{Target}
use Rattle.wm_machine.specs.declared.command.Target.TheVariants as target
use Rattle.wm_machine.specs.declared.command.UniqueName.{UniqueName}
use Rattle.wm_machine.specs.declared.event.End.{End}
use Rattle.wm_machine.specs.declared.event.End.TheVariants.{Retry}
use Rattle.wm_machine.specs.declared.event.Event.{Event}
use Rattle.wm_machine.specs.declared.event.Event.TheVariants as event
use Rattle.wm_machine.specs.declared.record.How.{How}
use Rattle.wm_machine.specs.declared.record.How.TheVariants as how
use Rattle.wm_machine.specs.declared.record.Record.{Record}
use Rattle.wm_machine.specs.declared.reply.Applied.TheVariants.{NotApplied}
use Rattle.wm_machine.specs.declared.reply.Refusal.{Refusal}
use Rattle.wm_machine.specs.declared.reply.Refusal.TheVariants as refusal
use Rattle.wm_machine.specs.declared.reply.Reply.TheVariants as reply
use Rattle.wm_machine.specs.declared.state.Run.{Run}
use Rattle.wm_machine.specs.declared.state.State.{State}
use Rattle.wm_observe.specs.Notes.{notes_between, notes_from, pairs_of}
use Rattle.wm_request.specs.Requests.{RequestFields}
use Rattle.wm_request.specs.declared.request.Node.{Node}
use Rattle.wm_texts.specs.Texts.{log_text, text_of}

-- the observers are the same, and so it is with the hush
record Keeps (s t : State) : Type 0 where
  pub observers : t.observers ≡ s.observers
  pub hushed : t.hushed ≡ s.hushed

stays : (s : State) → Keeps s s
stays s = record { observers = refl; hushed = refl }

then : (s t u : State) → Keeps s t → Keeps t u → Keeps s u
then s t u one next = record { observers = next.observers ∙ one.observers; hushed = next.hushed ∙ one.hushed }

keeps-cond : (s : State) (test : Bool) (one other : Outcome) → Keeps s one.state → Keeps s other.state → Keeps s (cond test one other).state
keeps-cond s test one other hit miss = cond_both test one other (λ (o : Outcome). Keeps s o.state) (λ e. hit) (λ e. miss)

-- ---- runs

keeps-start_on : (s : State) (work : Record) (idle : Option _) (input : List DataEntry) → Keeps s (start_on s work idle input)
keeps-start_on s work None input = stays s
keeps-start_on s work (Some instance) input = record { observers = refl; hushed = refl }

keeps-start : (s : State) (first : Option Record) (input : List DataEntry) → Keeps s (start_of s first input)
keeps-start s None input = stays s
keeps-start s (Some work) input = keeps-start_on s work (idle_instance s.instances work.request.class) input

keeps-turn : (s : State) (run : Option Run) (progress : Option (List DataEntry)) → Keeps s (turn_of s run progress)
keeps-turn s None progress = stays s
keeps-turn s (Some run) progress = record { observers = refl; hushed = refl }

keeps-end : (s : State) (run : Option Run) (end : End) → Keeps s (end_of s run end)
keeps-end s None end = stays s
keeps-end s (Some run) end = record { observers = refl; hushed = refl }

keeps-returned : (s : State) (run : Option Run) → Keeps s (returned_of s run)
keeps-returned s None = stays s
keeps-returned s (Some run) = record { observers = refl; hushed = refl }

-- ---- commands

keeps-closed : (how : How) (seqs : List ℕ) (s : State) → Keeps s (with_works_closed how seqs s)
keeps-closed how [] s = stays s
keeps-closed how (seq ∷ seqs) s =
    let next = with_work_closed how seq s in
    then s next (with_works_closed how seqs next) (record { observers = refl; hushed = refl }) (keeps-closed how seqs next)

keeps-cancelled : (s : State) (target : Target) → Keeps s (cancelled s target).state
keeps-cancelled s (target.Id id) =
    keeps-cond s (is_stored s.works id) (cancelled_each s (targeted (target.Id id) s.works)) (unchanged s (reply.Refused (refusal.NoSuchWork id)))
    (keeps-closed how.Cancelled (targeted (target.Id id) s.works) s) (stays s)
keeps-cancelled s (target.Tag tag) = keeps-closed how.Cancelled (targeted (target.Tag tag) s.works) s
keeps-cancelled s (target.Name name) = keeps-closed how.Cancelled (targeted (target.Name name) s.works) s
keeps-cancelled s target.All = keeps-closed how.Cancelled (targeted target.All s.works) s

keeps-placed : (s : State) (name : Option (List ℕ)) (earlier : List ℕ) (nodes : List Node) → Keeps s (placed_after s name earlier nodes)
keeps-placed s name earlier [] = stays s
keeps-placed s name earlier (node ∷ nodes) =
    let next = with_work s (new_record s name (prior_of s.works earlier node.after) node) in
    then s next (placed_after next name earlier nodes) (record { observers = refl; hushed = refl }) (keeps-placed next name earlier nodes)

keeps-ready : (s : State) (placing : plan.Placing) → Keeps s (made_ready s placing)
keeps-ready s placing =
    let closed = keeps-closed how.Cancelled placing.cancel s in record { observers = closed.observers; hushed = closed.hushed }

keeps-updated : (s : State) (member : Record) (works : List Node) → Keeps s (updated_by s member works).state
keeps-updated s member [] = stays s
keeps-updated s member (work ∷ works) = record { observers = refl; hushed = refl }

keeps-carried : (p : Plan) (s : State) (name : List ℕ) (works : List Node) → Keeps s (carried_out p s name works).state
keeps-carried plan.Keeps s name works = stays s
keeps-carried (plan.Updates member) s name works = keeps-updated s member works
keeps-carried (plan.Places placing) s name works =
    let ready = made_ready s placing in
    then s ready (placed_after ready (Some name) placing.after works) (keeps-ready s placing) (keeps-placed ready (Some name) placing.after works)

keeps-enqueued : (s : State) (found : Option Refusal) (named : Option UniqueName) (works : List Node) → Keeps s (outcome_by found s named works).state
keeps-enqueued s (Some found) named works = stays s
keeps-enqueued s None None works = keeps-placed s None [] works
keeps-enqueued s None (Some unique) works = keeps-carried (plan_in s unique) s unique.name works

keeps-update : (s : State) (request : RequestFields) (found : Option Record) → Keeps s (update_by s request found).state
keeps-update s request None = stays s
keeps-update s request (Some work) =
    let refused = unchanged s (reply.Refused (refusal.KindMismatch request.id)) in
    let done = unchanged s (reply.Updated NotApplied work.generation) in
    let same = is_same_kind request.period work.request.period in
    keeps-cond s (is_open work.phase) (cond same (update_of s request work) refused) done
    (keeps-cond s same (update_of s request work) refused (record { observers = refl; hushed = refl }) (stays s)) (stays s)

keeps-settled : (s : State) (first : Option Record) (runs : List Run) → Keeps s (state_by s (settled_by s first runs))
keeps-settled s None [] = stays s
keeps-settled s None (run ∷ runs) = stays s
keeps-settled s (Some work) runs = stays s

-- ---- a step

-- the observers are the same, and only summaries are written where it was so, or where this hushes
record Goes (hush : Bool) (s t : State) : Type 0 where
  pub observers : t.observers ≡ s.observers
  pub hushed : t.hushed ≡ (s.hushed || hush)

or-false : (b : Bool) → b ≡ (b || false)
or-false true = refl
or-false false = refl

or-true : (b : Bool) → true ≡ (b || true)
or-true true = refl
or-true false = refl

goes : (s t : State) → Keeps s t → Goes false s t
goes s t keeps = record { observers = keeps.observers; hushed = keeps.hushed ∙ or-false s.hushed }

goes-command : (s : State) (asked : Command) → IsNoObserve asked → Goes (is_hush asked) s (after_command s asked)
goes-command s (command.Enqueue named batch) fits = goes s _ (keeps-enqueued s (refusal_of s named batch.works) named batch.works)
goes-command s (command.Cancel target) fits = goes s _ (keeps-cancelled s target)
goes-command s (command.Update request) fits = goes s _ (keeps-update s request (work_with_id s.works request.id))
goes-command s (command.Moment at) fits =
    goes s _ (keeps-cond s (ltb at s.now) (unchanged s (reply.Refused (refusal.MomentBack s.now))) (record { reply = reply.Moment; state = record s { now = at } })
    (stays s) (record { observers = refl; hushed = refl }))
goes-command s (command.Conditions conditions) fits = goes s _ (record { observers = refl; hushed = refl })
goes-command s (command.Prune force) fits = goes s _ (record { observers = refl; hushed = refl })
goes-command s (command.Query query) fits = goes s _ (stays s)
goes-command s (command.Observe query) fits = absurd fits
goes-command s (command.Retire class) fits =
    goes s _ (keeps-cond s (is_live s.instances class)
    (record { reply = reply.Retired (count_by (is_idle class) s.instances); state = record s { instances = with_retired class s.instances } })
    (unchanged s (reply.Refused refusal.NoSuchClass)) (record { observers = refl; hushed = refl }) (stays s))
goes-command s command.Settle fits = goes s _ (keeps-settled s (first_of s) s.runs)
goes-command s command.Hush fits = record { observers = refl; hushed = or-true s.hushed }
goes-command s command.Summary fits = goes s _ (stays s)
goes-command s (command.Faulty fault) fits = goes s _ (stays s)

goes-after : (s : State) (e : Event) → AddsNoObserver e → Goes (hushes e) s (after s e)
goes-after s (event.Command line asked answer) fits = goes-command s asked fits
goes-after s (event.Start run seq instance input) fits = goes s _ (keeps-start s (first_of s) input)
goes-after s (event.StartFailed seq cause) fits = goes s _ (record { observers = refl; hushed = refl })
goes-after s (event.Turn run progress) fits = goes s _ (keeps-turn s (run_numbered run s.runs) progress)
goes-after s (event.Finish run end) fits = goes s _ (keeps-end s (run_numbered run s.runs) end)
goes-after s (event.TimedOut run) fits = goes s _ (keeps-end s (run_numbered run s.runs) Retry)
goes-after s (event.Late run) fits = goes s _ (keeps-returned s (run_numbered run s.runs))

-- ---- the text of a log

-- the text of a log without observers
pub plain-log : (first : State) (log : List Event) → first.observers ≡ [] → AllByRecursion AddsNoObserver log → log_text first log ≡ plain_text first.hushed log
plain-log first [] none fits = refl
plain-log first (e ∷ log) none fits =
    let next = after first e in
    let step = goes-after first e fits.0 in
    let notes : notes_between first next ≡ [] = ap (λ queries. notes_from 1 queries (pairs_of first next)) none in
    let rest = plain-log next log (step.observers ∙ none) fits.1 in
    (λ i. text_of e (notes i) (step.hushed i) ++ rest i) ∙ ap (λ hushed. text_of e [] (first.hushed || hushes e) ++ plain_text hushed log) step.hushed
