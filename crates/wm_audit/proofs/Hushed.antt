-- A state that is hushed stays so.
use Rattle.std.proofs.Common.{◌≡◌, ℕ, true, List, [], ◌∷◌, length, nat_lt, Option, Some, None, refl, ◌∙◌, inl, inr}
use Rattle.std.proofs.lemmas.Bool.{cases_Bool}
use Rattle.wm_data.specs.declared.data.DataEntry.{DataEntry}
use Rattle.wm_machine.specs.Cancelled.{is_stored, targeted, work_with_id}
use Rattle.wm_machine.specs.Closed.{is_open, with_work_closed, with_works_closed}
use Rattle.wm_machine.specs.Ends.{end_of, returned_of}
use Rattle.wm_machine.specs.Enqueued.{carried_out, made_ready, new_record, outcome_by, placed_after, plan_in, prior_of, refusal_of, with_work}
use Rattle.wm_machine.specs.First.{first_of, idle_instance, is_live}
use Rattle.wm_machine.specs.Plan as plan
use Rattle.wm_machine.specs.Plan.{Plan}
use Rattle.wm_machine.specs.Quiet.{settled_by}
use Rattle.wm_machine.specs.Runs.{run_numbered, start_on}
use Rattle.wm_machine.specs.Step.{after, after_command, start_of, state_by}
use Rattle.wm_machine.specs.Turns.{turn_of}
use Rattle.wm_machine.specs.Updated.{is_same_kind, update_by}
use Rattle.wm_machine.specs.declared.command.Command.{Command}
use Rattle.wm_machine.specs.declared.command.Command.TheVariants as command
use Rattle.wm_machine.specs.declared.command.Target.TheVariants.{All, Id, Name, Tag}
use Rattle.wm_machine.specs.declared.command.UniqueName.{UniqueName}
use Rattle.wm_machine.specs.declared.event.End.{End}
use Rattle.wm_machine.specs.declared.event.End.TheVariants.{Retry}
use Rattle.wm_machine.specs.declared.event.Event.{Event}
use Rattle.wm_machine.specs.declared.event.Event.TheVariants as event
use Rattle.wm_machine.specs.declared.record.How.TheVariants as how
use Rattle.wm_machine.specs.declared.record.Record.{Record}
use Rattle.wm_machine.specs.declared.reply.Refusal.{Refusal}
use Rattle.wm_machine.specs.declared.state.Instance.{Instance}
use Rattle.wm_machine.specs.declared.state.Run.{Run}
use Rattle.wm_machine.specs.declared.state.State.{State}
use Rattle.wm_request.specs.Requests.{RequestFields}
use Rattle.wm_request.specs.declared.request.Node.{Node}

-- ---- commands

closed-hushed : (seqs : List ℕ) (s : State) → (with_works_closed how.Cancelled seqs s).hushed ≡ s.hushed
closed-hushed [] s = refl
closed-hushed (seq ∷ seqs) s = closed-hushed seqs (with_work_closed how.Cancelled seq s)

placed-hushed : (s : State) (name : Option (List ℕ)) (first : List ℕ) (nodes : List Node) → (placed_after s name first nodes).hushed ≡ s.hushed
placed-hushed s name first [] = refl
placed-hushed s name first (node ∷ nodes) = placed-hushed (with_work s (new_record s name (prior_of s.works first node.after) node)) name first nodes

planned-hushed : (p : Plan) (s : State) (name : List ℕ) (works : List Node) → (carried_out p s name works).state.hushed ≡ s.hushed
planned-hushed plan.Keeps s name works = refl
planned-hushed (plan.Updates member) s name [] = refl
planned-hushed (plan.Updates member) s name (work ∷ works) = refl
planned-hushed (plan.Places placing) s name works =
    placed-hushed (made_ready s placing) (Some name) placing.after works ∙ closed-hushed placing.cancel s

enqueue-hushed : (found : Option Refusal) (s : State) (named : Option UniqueName) (works : List Node) → (outcome_by found s named works).state.hushed ≡ s.hushed
enqueue-hushed (Some found) s named works = refl
enqueue-hushed None s None works = placed-hushed s None [] works
enqueue-hushed None s (Some unique) works = planned-hushed (plan_in s unique) s unique.name works

update-hushed : (s : State) (request : RequestFields) (found : Option Record) → (update_by s request found).state.hushed ≡ s.hushed
update-hushed s request None = refl
update-hushed s request (Some work) =
    elim (cases_Bool (is_open work.phase)) [
      | inl e ↦
          elim (cases_Bool (is_same_kind request.period work.request.period)) [ inl same ↦ rw (e, same) refl | inr same ↦ rw (e, same) refl ]
      | inr e ↦ rw e refl
    ]

settle-hushed : (s : State) (first : Option Record) (runs : List Run) → (state_by s (settled_by s first runs)).hushed ≡ s.hushed
settle-hushed s None [] = refl
settle-hushed s None (run ∷ runs) = refl
settle-hushed s (Some work) [] = refl
settle-hushed s (Some work) (run ∷ runs) = refl

command-hushed : (s : State) (asked : Command) → s.hushed ≡ true → (after_command s asked).hushed ≡ true
command-hushed s (command.Enqueue named batch) is = enqueue-hushed (refusal_of s named batch.works) s named batch.works ∙ is
command-hushed s (command.Cancel (Id id)) is =
    elim (cases_Bool (is_stored s.works id)) [ inl e ↦ rw e (closed-hushed (targeted (Id id) s.works) s ∙ is) | inr e ↦ rw e is ]
command-hushed s (command.Cancel (Tag tag)) is = closed-hushed (targeted (Tag tag) s.works) s ∙ is
command-hushed s (command.Cancel (Name name)) is = closed-hushed (targeted (Name name) s.works) s ∙ is
command-hushed s (command.Cancel All) is = closed-hushed (targeted All s.works) s ∙ is
command-hushed s (command.Update request) is = update-hushed s request (work_with_id s.works request.id) ∙ is
command-hushed s (command.Moment at) is = elim (cases_Bool (nat_lt at s.now)) [ inl e ↦ rw e is | inr e ↦ rw e is ]
command-hushed s (command.Conditions conditions) is = is
command-hushed s (command.Prune force) is = is
command-hushed s (command.Query query) is = is
command-hushed s (command.Observe query) is = elim (cases_Bool (nat_lt (length s.observers) 100)) [ inl e ↦ rw e is | inr e ↦ rw e is ]
command-hushed s (command.Retire class) is = elim (cases_Bool (is_live s.instances class)) [ inl e ↦ rw e is | inr e ↦ rw e is ]
command-hushed s command.Settle is = settle-hushed s (first_of s) s.runs ∙ is
command-hushed s command.Hush is = refl
command-hushed s command.Summary is = is
command-hushed s (command.Faulty fault) is = is

-- ---- runs

start-hushed : (s : State) (work : Record) (idle : Option Instance) (input : List DataEntry) → (start_on s work idle input).hushed ≡ s.hushed
start-hushed s work None input = refl
start-hushed s work (Some instance) input = refl

first-hushed : (s : State) (first : Option Record) (input : List DataEntry) → (start_of s first input).hushed ≡ s.hushed
first-hushed s None input = refl
first-hushed s (Some work) input = start-hushed s work (idle_instance s.instances work.request.class) input

turn-hushed : (s : State) (run : Option Run) (progress : Option (List DataEntry)) → (turn_of s run progress).hushed ≡ s.hushed
turn-hushed s None progress = refl
turn-hushed s (Some run) progress = refl

end-hushed : (s : State) (run : Option Run) (end : End) → (end_of s run end).hushed ≡ s.hushed
end-hushed s None end = refl
end-hushed s (Some run) end = refl

return-hushed : (s : State) (run : Option Run) → (returned_of s run).hushed ≡ s.hushed
return-hushed s None = refl
return-hushed s (Some run) = refl

-- ---- events

pub hushed-after : (s : State) (e : Event) → s.hushed ≡ true → (after s e).hushed ≡ true
hushed-after s (event.Command line asked answer) is = command-hushed s asked is
hushed-after s (event.Start run seq instance input) is = first-hushed s (first_of s) input ∙ is
hushed-after s (event.StartFailed seq cause) is = is
hushed-after s (event.Turn run progress) is = turn-hushed s (run_numbered run s.runs) progress ∙ is
hushed-after s (event.Finish run end) is = end-hushed s (run_numbered run s.runs) end ∙ is
hushed-after s (event.TimedOut run) is = end-hushed s (run_numbered run s.runs) Retry ∙ is
hushed-after s (event.Late run) is = return-hushed s (run_numbered run s.runs) ∙ is
