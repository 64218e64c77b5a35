-- The step of an update: the record that has the request's id is replaced.
use Rattle.std.proofs.Common.{◌≡◌, ◌≢◌, ℕ, ◌+◌, true, cond, eqb, List, [], ◌++◌, length, map-id, set, slice_get, Some, refl, sym, ◌∙◌, ap, subst, arith, inl, inr}
use Rattle.std.proofs.lemmas.Bool.{cond-true, eq-eqb}
use Rattle.wm_settings.proofs.Executions.{Answers-outcome, rows-change}
use Rattle.wm_commands.specs.Builds.{renewal, update_event, IsUpdating}
use Rattle.wm_settings.specs.Builds.{ChangesRows, IsExecuted}
use Rattle.wm_machine.proofs.Records.{IsRecord-updated, next-fits}
use Rattle.wm_machine.proofs.Runnings.{changed}
use Rattle.wm_machine.specs.Cancelled.{work_with_id}
use Rattle.wm_machine.specs.Closed.{is_open}
use Rattle.wm_machine.specs.Limits.{FitsRow}
use Rattle.wm_machine.specs.Outcome.{IsAskable, outcome}
use Rattle.wm_machine.specs.Replied.{unchanged}
use Rattle.wm_machine.specs.Rows.{row_of, rows_of}
use Rattle.wm_machine.specs.Runs.{changed_work}
use Rattle.wm_machine.specs.Step.{Legal, after_command, state_by}
use Rattle.wm_machine.specs.Updated.{applied, is_same_kind, one_update_more, runs_after_update, update_by, update_of, updated}
use Rattle.wm_machine.specs.Valid.{IsRecord, Valid}
use Rattle.wm_machine.specs.declared.command.Command.{Command}
use Rattle.wm_machine.specs.declared.record.Record.{Record}
use Rattle.wm_machine.specs.declared.state.Run.{Run}
use Rattle.wm_machine.specs.declared.state.State.{State}
use Rattle.wm_machine.specs.declared.command.Command.TheVariants as command
use Rattle.wm_machine.specs.declared.reply.Applied.TheVariants.{NotApplied}
use Rattle.wm_machine.specs.declared.reply.Refusal.TheVariants.{KindMismatch}
use Rattle.wm_machine.specs.declared.reply.Reply.{Reply}
use Rattle.wm_machine.specs.declared.reply.Reply.TheVariants as reply
use Rattle.wm_request.specs.Requests.{IsNextRun, IsRequest, RequestFields}
use Rattle.wm_request.specs.declared.request.NextRun.{NextRun}
use Rattle.wm_request.specs.declared.request.NextRun.TheVariants.{Leave, At, Clear}
use Rattle.wm_steps.proofs.Lookups.{All-at, stored-at}
use Rattle.wm_steps.proofs.StepFits.{keeping_row-step, replacing-step}
use Rattle.wm_changes.specs.Replacements.{MayReplace}
use Rattle.wm_changes.specs.StepChanges.{instances_by, next_run_by, row_changes, runs_by, IsStepOf}
use Rattle.wm_changes.specs.declared.change.StepChange.{StepChange}

-- an updated record fits a row
pub FitsRow-updated : (request : RequestFields) (work : Record) → IsNextRun request.period request.next → FitsRow work → FitsRow (updated request work)
FitsRow-updated request work asked fits = record {
  seq = fits.seq;
  prior = fits.prior;
  generation = omega arith;
  enqueued_at = fits.enqueued_at;
  override_at = next-fits request.period request.next work.override_at asked fits.override_at;
  finished_at = fits.finished_at;
}

-- what is said of the runs renews the current one of the work, where the moment of the next one is set or cleared
runs-renewed : (s : State) (next : NextRun) (seq : ℕ) (works : List Record) (number : ℕ)
    → record s {
      works = works;
      runs = runs_by (renewal next seq) s.runs;
      instances = instances_by (renewal next seq) s.instances;
      next = number;
      next_run = next_run_by (renewal next seq) s.next_run;
    } ≡ record s { works = works; runs = runs_after_update next seq s.runs; next = number }
runs-renewed s Leave seq works number = ap (λ (runs : List Run). record s { works = works; runs = runs; next = number }) (sym (map-id s.runs))
runs-renewed s (At moment) seq works number = refl
runs-renewed s Clear seq works number = refl

-- ---- a command that updates the record at an index

module _ (s : State) (line : ℕ) (asked : Command) (i : ℕ) (work : Record) (request : RequestFields) (change : StepChange) (valid : Valid s)
    (at : slice_get s.works i ≡ Some work) (within : IsRequest request) (kind : is_same_kind request.period work.request.period ≡ true)
    (askable : IsAskable asked) (outcome-is : outcome s asked ≡ Some (update_of s request work)) (is : IsUpdating line asked i work request change) where
  abbrev answer : Reply
  answer = reply.Updated (applied work.phase) (one_update_more work.generation)

  -- the state, with the run renewed where the moment of the next one is set or cleared
  abbrev renewed : State
  renewed = record s { runs = runs_after_update request.next work.seq s.runs }

  after-is : after_command s asked ≡ record renewed { works = changed_work (updated request) work.seq s.works }
  after-is = ap (state_by s) outcome-is

  legal : Legal s (update_event line asked work)
  legal = (askable, Answers-outcome s asked answer (update_of s request work) outcome-is refl)

  fine : IsRecord (updated request work)
  fine = IsRecord-updated request work within kind (All-at IsRecord s.works i work valid.works.records at)

  keeps : MayReplace work (updated request work)
  keeps = record { seq = refl; id = refl; name = inl refl; prior = refl; succeeded = λ is. is }

  -- where the record's row changes, the rows do
  rows_change : row_of (updated request work) ≢ row_of work → ChangesRows s asked
  rows_change differs same =
      rows-change (changed (updated request) work.seq) work s.works (stored-at s.works i work at) (λ kept.
      differs (ap row_of (sym (cond-true (eqb work.seq work.seq) (updated request work) work (eq-eqb work.seq work.seq refl))) ∙ kept))
      (ap rows_of (sym after-is) ∙ same)

  pub updating-executed : IsExecuted s line asked change
  updating-executed = elim is [
    | inl kept ↦ record {
      reply = answer;
      event = ap (λ (change : StepChange). change.event) kept.1;
      step = subst (IsStepOf s) (sym kept.1)
          (keeping_row-step s renewed i work (updated request) (renewal request.next work.seq) (update_event line asked work) valid at kept.0 legal
          (runs-renewed s request.next work.seq (set s.works i (updated request work) ++ []) (s.next + 0)) after-is);
      rows = inr (ap row_changes kept.1);
    }
    | inr put ↦ record {
      reply = answer;
      event = ap (λ (change : StepChange). change.event) put.1;
      step = subst (IsStepOf s) (sym put.1)
          (replacing-step s renewed i work (updated request) (renewal request.next work.seq) (update_event line asked work) valid at keeps (λ is. is) fine
          legal (runs-renewed s request.next work.seq (set s.works i (updated request work) ++ []) (s.next + 0)) after-is);
      rows = inl (rows_change put.0);
    }
  ]

-- ---- the command that updates

-- an unfinished work is updated by a request of its kind
pub updated-is : (s : State) (request : RequestFields) (work : Record) → work_with_id s.works request.id ≡ Some work → is_open work.phase ≡ true
    → is_same_kind request.period work.request.period ≡ true → outcome s (command.Update request) ≡ Some (update_of s request work)
updated-is s request work found unfinished kind =
    let refused = unchanged s (reply.Refused (KindMismatch request.id)) in
    let finished = unchanged s (reply.Updated NotApplied work.generation) in
    ap (λ o. Some (update_by s request o)) found
    ∙ ap (λ b. Some (cond b (cond (is_same_kind request.period work.request.period) (update_of s request work) refused) finished)) unfinished
    ∙ ap (λ b. Some (cond b (update_of s request work) refused)) kind
