-- Updating a work that was enqueued. After what the guide says of updating work, and `androidx.work.WorkManager.updateWork` with its
-- `UpdateResult`, and `androidx.work.PeriodicWorkRequest.Builder.setNextScheduleTimeOverride`; what is replaced and what stays, the generation that stands still, and what is refused, are this project's own choice.
use Rattle.std.specs.Prelude.{ℕ, ◌+◌, ◌-◌, ◌^◌, ◌==◌, ◌&&◌, Bool, true, false, List, map, min, if◌then◌else◌, Option, Some, None}
use Rattle.wm_machine.specs.Cancelled.{work_with_id}
use Rattle.wm_machine.specs.Closed.{is_open}
use Rattle.wm_machine.specs.Replied.{Outcome, unchanged}
use Rattle.wm_machine.specs.Runs.{changed_work}
use Rattle.wm_machine.specs.declared.record.Phase.{Phase}
use Rattle.wm_machine.specs.declared.record.Phase.TheVariants as phase
use Rattle.wm_machine.specs.declared.record.Record.{Record}
use Rattle.wm_machine.specs.declared.reply.Applied.{Applied}
use Rattle.wm_machine.specs.declared.reply.Applied.TheVariants.{NotApplied, Immediately, ForNextRun}
use Rattle.wm_machine.specs.declared.reply.Refusal.TheVariants.{KindMismatch, NoSuchWork}
use Rattle.wm_machine.specs.declared.reply.Reply.TheVariants as reply
use Rattle.wm_machine.specs.declared.state.Run.{Run}
use Rattle.wm_machine.specs.declared.state.State.{State}
use Rattle.wm_request.specs.Requests.{of_record, RequestFields}
use Rattle.wm_request.specs.declared.request.NextRun.{NextRun}
use Rattle.wm_request.specs.declared.request.NextRun.TheVariants.{Leave, At, Clear}
use Rattle.wm_schedule.specs.declared.schedule.Period.{Period}

-- ---- the record

-- updates are counted up to 2^53 - 1
abbrev pub one_update_more : ℕ → ℕ
one_update_more generation = min (generation + 1) (2 ^ 53 - 1)

-- the moment that the next run is given, where it was this before and is asked for so
abbrev pub next_moment : NextRun → Option ℕ → Option ℕ
next_moment Leave override_at = override_at
next_moment (At moment) override_at = Some moment
next_moment Clear override_at = None

-- a work that is asked for anew: the request is replaced but for its id and its keeping time, and all else of the record stays but for the
-- moment of its next run, where the request asks for one or for none
abbrev pub updated : RequestFields → Record → Record
updated request work = record work {
  request = of_record work.request.id work.request.keep request;
  generation = one_update_more work.generation;
  override_at = next_moment request.next work.override_at;
}

-- whether both are one-time, or both periodic
abbrev pub is_same_kind : Option Period → Option Period → Bool
is_same_kind None None = true
is_same_kind (Some period) (Some other) = true
is_same_kind _ _ = false

-- when an update counts: a run that is under way goes on with what it took at its start
abbrev pub applied : Phase → Applied
applied phase.Running = ForNextRun
applied _ = Immediately

-- ---- the runs

-- whether a request sets the moment of the next run or clears it
abbrev pub asks_of_next : NextRun → Bool
asks_of_next Leave = false
asks_of_next _ = true

-- a run since whose start the moment of the next one was set anew
abbrev pub made_new : Run → Run
made_new run = record run { renewed = true }

-- whether a run is the current one of the work of this number
abbrev pub is_run_of : ℕ → Run → Bool
is_run_of seq run = run.current && (run.seq == seq)

-- the runs, of which those that are meant are renewed
abbrev pub with_renewed : (Run → Bool) → List Run → List Run
with_renewed is_meant runs = map (λ run. if is_meant run then made_new run else run) runs

-- the runs after an update of the work of this number: its current one is renewed, where the moment of the next run is set or cleared
abbrev pub runs_after_update : NextRun → ℕ → List Run → List Run
runs_after_update next seq runs = with_renewed (λ run. asks_of_next next && is_run_of seq run) runs

-- ---- the outcome

-- an unfinished work is updated
abbrev pub update_of : State → RequestFields → Record → Outcome
update_of s request work = record {
  reply = reply.Updated (applied work.phase) (one_update_more work.generation);
  state = record s {
    works = changed_work (updated request) work.seq s.works;
    runs = runs_after_update request.next work.seq s.runs;
  };
}

-- a finished work is left as it is, and an unfinished one of the other kind is refused
abbrev pub update_found : State → RequestFields → Record → Outcome
update_found s request work =
    if is_open work.phase then
    (if is_same_kind request.period work.request.period then update_of s request work
    else unchanged s (reply.Refused (KindMismatch request.id)))
    else unchanged s (reply.Updated NotApplied work.generation)

abbrev pub update_by : State → RequestFields → Option Record → Outcome
update_by s request None = unchanged s (reply.Refused (NoSuchWork request.id))
update_by s request (Some work) = update_found s request work

-- the work that has the request's id is updated; one that isn't there is refused
abbrev pub update : State → RequestFields → Outcome
update s request = update_by s request (work_with_id s.works request.id)
