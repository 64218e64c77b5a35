-- How a run goes on from one turn to the next. After the guide's page "Observe intermediate worker progress", where a worker tells its progress
-- while it runs; that a run goes in turns is this project's own choice.
use Rattle.std.specs.Prelude.{ℕ, ◌+◌, ◌==◌, List, map, if◌then◌else◌, Option, Some, None}
use Rattle.wm_data.specs.declared.data.DataEntry.{DataEntry}
use Rattle.wm_machine.specs.Runs.{changed_work}
use Rattle.wm_machine.specs.declared.record.Record.{Record}
use Rattle.wm_machine.specs.declared.state.Run.{Run}
use Rattle.wm_machine.specs.declared.state.State.{State}

-- a run at its next turn
abbrev pub turned : Run → Run
turned run = record run { turn = run.turn + 1 }

-- the runs, with the one of this number at its next turn
abbrev pub with_turned : ℕ → List Run → List Run
with_turned number runs = map (λ run. if run.run == number then turned run else run) runs

-- a work that tells this as its progress, where it is given
abbrev pub telling : Option (List DataEntry) → Record → Record
telling None work = work
telling (Some progress) work = record work { progress = progress }

-- a run goes on to its next turn
abbrev pub with_turn : State → Run → Option (List DataEntry) → State
with_turn s run progress = record s {
  works = changed_work (telling progress) run.seq s.works;
  runs = with_turned run.run s.runs;
}

abbrev pub turn_of : State → Option Run → Option (List DataEntry) → State
turn_of s None progress = s
turn_of s (Some run) progress = with_turn s run progress
