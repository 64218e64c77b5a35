-- How a run begins, and which works can't start. After the guide's pages "Work states" and "Chaining work"; attempts that stand still, runs
-- and instances are this project's own choice.
use Rattle.std.specs.Prelude.{ℕ, ◌+◌, ◌==◌, Bool, true, false, not, List, [], ◌∷◌, ◌++◌, map, filter, find, min, if◌then◌else◌, Option, Some, None}
use Rattle.wm_data.specs.declared.data.DataEntry.{DataEntry}
use Rattle.wm_machine.specs.First.{is_live}
use Rattle.wm_machine.specs.Input.{cause_in, input_of}
use Rattle.wm_machine.specs.declared.event.Cause.{Cause}
use Rattle.wm_machine.specs.declared.event.Cause.TheVariants.{NoWorker}
use Rattle.wm_machine.specs.declared.record.Phase.TheVariants as phase
use Rattle.wm_machine.specs.declared.record.Record.{Record}
use Rattle.wm_machine.specs.declared.state.Instance.{Instance}
use Rattle.wm_machine.specs.declared.state.Run.{Run}
use Rattle.wm_machine.specs.declared.state.State.{State}

-- ---- records

-- the records, with the one of this number changed
abbrev pub changed_work : (Record → Record) → ℕ → List Record → List Record
changed_work change seq works = map (λ work. if work.seq == seq then change work else work) works

-- attempts are counted up to 1,000,000
abbrev pub one_attempt_more : ℕ → ℕ
one_attempt_more attempt = min (attempt + 1) 1000000

-- a work whose run begins
abbrev pub started : Record → Record
started work = record work { phase = phase.Running; attempt = one_attempt_more work.attempt; progress = [] }

-- ---- why a run doesn't begin

-- why a work that is first can't start, where it can't: its class has no worker, or it has no input
abbrev pub start_refusal : State → Record → Option Cause
start_refusal s work = if is_live s.instances work.request.class then cause_in (input_of s work) else Some NoWorker

-- ---- instances and runs

-- an instance that is out or not
abbrev pub made_out : Bool → Instance → Instance
made_out out instance = record instance { out = out }

-- the instances, with the one of this number out or not
abbrev pub with_out : Bool → ℕ → List Instance → List Instance
with_out out number instances = map (λ instance. if instance.number == number then made_out out instance else instance) instances

-- the next run, of this work on this instance, with this input
abbrev pub run_on : State → Record → Instance → List DataEntry → Run
run_on s work instance input = record {
  run = s.next_run;
  seq = work.seq;
  attempt = one_attempt_more work.attempt;
  input = input;
  kind = instance.kind;
  instance = instance.number;
  constraints = work.request.constraints;
  turn = 0;
  current = true;
  renewed = false;
}

-- a run that isn't current any more: how it ends doesn't count
abbrev pub stopped : Run → Run
stopped run = record run { current = false }

-- the runs, of which those that are meant aren't current any more
abbrev pub with_stopped : (Run → Bool) → List Run → List Run
with_stopped is_meant runs = map (λ run. if is_meant run then stopped run else run) runs

-- the run of this number
abbrev pub run_numbered : ℕ → List Run → Option Run
run_numbered number runs = find (λ run. run.run == number) runs

-- the runs but for the one of this number
abbrev pub other_runs : ℕ → List Run → List Run
other_runs number runs = filter (λ run. not (run.run == number)) runs

-- ---- states

-- a run of this work begins on this instance, with this input
abbrev pub with_start : State → Record → Instance → List DataEntry → State
with_start s work instance input = record s {
  works = changed_work started work.seq s.works;
  runs = s.runs ++ run_on s work instance input ∷ [];
  instances = with_out true instance.number s.instances;
  next_run = s.next_run + 1;
}

abbrev pub start_on : State → Record → Option Instance → List DataEntry → State
start_on s work None input = s
start_on s work (Some instance) input = with_start s work instance input
