-- Which report of a worker counts for a run, and whether the run goes on by it.
use Rattle.std.specs.Prelude.{◌≡◌, ℕ, ◌&&◌, Bool, true, false, Option, Some, IsSome, IsSomeAnd, nat_lt, slice_get}
use Rattle.wm_machine.specs.Runs.{run_numbered}
use Rattle.wm_machine.specs.Valid.{IsWorkOf, Valid}
use Rattle.wm_machine.specs.declared.record.Record.{Record}
use Rattle.wm_machine.specs.declared.state.Run.{Run}
use Rattle.wm_machine.specs.declared.state.State.{State}
use Rattle.wm_worker.specs.Answers.{given_of}
use Rattle.wm_worker.specs.Told.{Report, IsReportOf}
use Rattle.wm_worker.specs.declared.answer.Given.{Given}
use Rattle.wm_worker.specs.declared.answer.Given.TheVariants.{More}
use Rattle.wm_worker.specs.declared.task.Task.{Task}

-- what a worker is asked in a run
abbrev pub task_in : Run → Task
task_in run = record { run = run.run; attempt = run.attempt; input = run.input }

-- the run of this number in a valid state, which is current, and its work, which stands at this index
pub record IsFoundRun (s : State) (number index : ℕ) (run : Run) (work : Record) : Type 0 where
  pub valid : Valid s
  pub found : run_numbered number s.runs ≡ Some run
  pub current : run.current ≡ true
  pub at : slice_get s.works index ≡ Some work
  pub of : IsWorkOf run work

-- the run of this number is unreturned, and current, or not
abbrev pub IsOut : State → ℕ → Bool → Type 0
IsOut s number current = IsSomeAnd (run_numbered number s.runs) (λ run. run.current ≡ current)

-- a report counts for a run: the run is current, and the report is of its kind, about its task and its turn, and wasn't cut
pub record Counts (run : Run) (told : Report) : Type 0 where
  pub current : run.current ≡ true
  pub about : IsReportOf run.kind (task_in run) run.turn told
  pub given : IsSome (given_of told.answer)

-- a report counts for the run of this number
abbrev pub CountsIn : State → ℕ → Report → Type 0
CountsIn s number told = IsSomeAnd (run_numbered number s.runs) (λ run. Counts run told)

-- whether what was given is the wish for one more turn
abbrev pub wants_more : Option Given → Bool
wants_more (Some (More progress)) = true
wants_more _ = false

-- whether a report is of the wish for one more turn, and the run has one: it has 1,000 turns
abbrev pub goes_on : Report → Bool
goes_on told = nat_lt told.k 999 && wants_more (given_of told.answer)
