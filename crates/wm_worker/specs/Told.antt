-- What a contract sees of a Told.
use Rattle.std.specs.Prelude.{◌≡◌, ℕ, List}
use Rattle.wm_data.specs.declared.data.DataEntry.{DataEntry}
use Rattle.wm_worker.specs.Answers.{MayAnswer}
use Rattle.wm_worker.specs.declared.answer.Answer.{Answer}
use Rattle.wm_worker.specs.declared.kind.Kind.{Kind}
use Rattle.wm_worker.specs.declared.task.Task.{Task}

-- the kind of the worker, the run, the attempt, the input, the turn and the answer
pub record Report : Type 0 where
  pub kind : Kind
  pub run : ℕ
  pub attempt : ℕ
  pub input : List DataEntry
  pub k : ℕ
  pub answer : Answer

-- the report of an answer to turn k of a task
abbrev pub report : Kind → Task → ℕ → Answer → Report
report kind task k answer = record { kind = kind; run = task.run; attempt = task.attempt; input = task.input; k = k; answer = answer }

-- the task that a report is about
abbrev pub task_of : Report → Task
task_of told = record { run = told.run; attempt = told.attempt; input = told.input }

-- a worker of the report's kind may answer so
abbrev pub IsAllowed : Report → Type 0
IsAllowed told = MayAnswer told.kind (task_of told) told.k told.answer

-- the report is of this kind, and about turn k of this task
pub record IsReportOf (kind : Kind) (task : Task) (k : ℕ) (told : Report) : Type 0 where
  pub same_kind : told.kind ≡ kind
  pub same_run : told.run ≡ task.run
  pub same_attempt : told.attempt ≡ task.attempt
  pub same_input : told.input ≡ task.input
  pub same_turn : told.k ≡ k
