-- How a run ends, and what becomes of a work that can't start. After the guide's pages "Work states", "Define work requests" (retry and
-- backoff, periodic work) and "Chaining work"; the moments, and counts that stand still, are this project's own choice.
use Rattle.std.specs.Prelude.{ℕ, ◌+◌, ◌&&◌, Bool, false, List, [], map, min, if◌then◌else◌, Option, Some, None}
use Rattle.std.specs.Option.{option_and_then}
use Rattle.wm_collections.specs.Lists.{is_among}
use Rattle.wm_data.specs.declared.data.DataEntry.{DataEntry}
use Rattle.wm_machine.specs.Closed.{closed, with_closed}
use Rattle.wm_machine.specs.First.{all_met, is_waiting}
use Rattle.wm_machine.specs.Input.{work_numbered}
use Rattle.wm_machine.specs.Runs.{changed_work, other_runs, with_out}
use Rattle.wm_machine.specs.declared.event.End.{End}
use Rattle.wm_machine.specs.declared.event.End.TheVariants.{Success, Failure, Retry}
use Rattle.wm_machine.specs.declared.record.How.TheVariants as how
use Rattle.wm_machine.specs.declared.record.Phase.TheVariants as phase
use Rattle.wm_machine.specs.declared.record.Record.{Record}
use Rattle.wm_machine.specs.declared.state.Run.{Run}
use Rattle.wm_machine.specs.declared.state.State.{State}
use Rattle.wm_schedule.specs.declared.schedule.Period.{Period}
use Rattle.wm_worker.specs.declared.answer.Given.{Given}
use Rattle.wm_worker.specs.declared.answer.Given.TheVariants as given

-- what a worker gave whose run ended so
abbrev pub given_by : End → Given
given_by (Success output) = given.Success output
given_by (Failure output) = given.Failure output
given_by Retry = given.Retry

-- ---- records

-- a work that gave this in the end, at this moment
abbrev pub succeeded : ℕ → List DataEntry → Record → Record
succeeded now output work =
    record work { phase = phase.Done how.Succeeded; finished_at = now; output = output; progress = [] }

abbrev pub with_output : List DataEntry → Record → Record
with_output output work = record work { output = output }

-- the moment that the next run was given, after one run: it is used up, but where it was set anew since that run began
abbrev pub left_of : Bool → Option ℕ → Option ℕ
left_of renewed override_at = if renewed then override_at else None

-- a work whose attempt is to be retried, after a run that was renewed or wasn't
abbrev pub retried : Bool → ℕ → Record → Record
retried renewed now work = record work {
  phase = phase.Waiting;
  backoff_n = work.attempt;
  enqueued_at = now;
  override_at = left_of renewed work.override_at;
  progress = [];
}

-- a periodic work that is enqueued again, for its next period, after a run that was renewed or wasn't
abbrev pub enqueued_again : Bool → ℕ → Record → Record
enqueued_again renewed now work = record work {
  phase = phase.Waiting;
  attempt = 0;
  backoff_n = 0;
  runs = min (work.runs + 1) 1000000;
  enqueued_at = now;
  override_at = left_of renewed work.override_at;
  output = [];
  progress = [];
}

-- What a run that ended so at this moment, and was renewed or wasn't, makes of its work: a retry puts it back; else periodic work is enqueued
-- again, and one-time work is finished with what it gave.
abbrev pub ended_as : Option Period → Bool → ℕ → End → Record → Record
ended_as _ renewed now Retry work = retried renewed now work
ended_as (Some period) renewed now _ work = enqueued_again renewed now work
ended_as None renewed now (Success output) work = succeeded now output work
ended_as None renewed now (Failure output) work = with_output output (closed how.Failed now work)

abbrev pub ended : Bool → ℕ → End → Record → Record
ended renewed now end work = ended_as work.request.period renewed now end work

-- what a start that fails makes of its work: one-time work has failed without having given anything, and periodic work is enqueued again, with
-- the moment used up that its next run was given
abbrev pub not_started_as : Option Period → ℕ → Record → Record
not_started_as None now work = closed how.Failed now work
not_started_as (Some period) now work = enqueued_again false now work

abbrev pub not_started : ℕ → Record → Record
not_started now work = not_started_as work.request.period now work

-- ---- the records of a state

-- a waiting work whose last missing prerequisite has succeeded, among these records
abbrev pub is_freed : ℕ → List Record → Record → Bool
is_freed seq works work = is_waiting work.phase && (is_among work.prior seq && all_met works work)

abbrev pub with_freed : ℕ → ℕ → List Record → List Record
with_freed now seq works = map (λ work. if is_freed seq works work then record work { enqueued_at = now } else work) works

-- the period of the work of this number, where it is periodic
abbrev pub period_of : ℕ → List Record → Option Period
period_of seq works = option_and_then (λ work. work.request.period) (work_numbered seq works)

-- the records after the end of a run that was renewed or wasn't: of one-time work and of periodic work
abbrev pub works_after_end : Bool → ℕ → ℕ → Option Period → End → List Record → List Record
works_after_end renewed now seq period Retry works = changed_work (retried renewed now) seq works
works_after_end renewed now seq (Some period) _ works = changed_work (enqueued_again renewed now) seq works
works_after_end renewed now seq None (Success output) works = with_freed now seq (changed_work (succeeded now output) seq works)
works_after_end renewed now seq None (Failure output) works = changed_work (with_output output) seq (with_closed how.Failed now seq works)

-- the records after a work couldn't start
abbrev pub works_not_started : ℕ → ℕ → Option Period → List Record → List Record
works_not_started now seq None works = with_closed how.Failed now seq works
works_not_started now seq (Some period) works = changed_work (enqueued_again false now) seq works

-- ---- states

-- a run is over, and its worker is at its place again
abbrev pub with_end : State → Run → End → State
with_end s run end = record s {
  works = works_after_end run.renewed s.now run.seq (period_of run.seq s.works) end s.works;
  runs = other_runs run.run s.runs;
  instances = with_out false run.instance s.instances;
}

abbrev pub end_of : State → Option Run → End → State
end_of s None end = s
end_of s (Some run) end = with_end s run end

-- a run that was stopped is away, and its worker is at its place again; nothing else changes
abbrev pub with_return : State → Run → State
with_return s run = record s { runs = other_runs run.run s.runs; instances = with_out false run.instance s.instances }

abbrev pub returned_of : State → Option Run → State
returned_of s None = s
returned_of s (Some run) = with_return s run

-- the work of this number couldn't start
abbrev pub with_start_failed : State → ℕ → State
with_start_failed s seq = record s { works = works_not_started s.now seq (period_of seq s.works) s.works }
