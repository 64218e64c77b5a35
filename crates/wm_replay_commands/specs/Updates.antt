-- What an update changes.
use Rattle.std.specs.Prelude.{◌≡◌, ℕ}
use Rattle.wm_machine.specs.Runs.{changed_work}
use Rattle.wm_machine.specs.Updated.{runs_after_update, update, updated}
use Rattle.wm_machine.specs.declared.state.State.{State}
use Rattle.wm_request.specs.Requests.{RequestFields}

-- the state in which the work of this number is updated by a request
abbrev pub with_updated : RequestFields → ℕ → State → State
with_updated request seq s = record s {
  works = changed_work (updated request) seq s.works;
  runs = runs_after_update request.next seq s.runs;
}

-- an update by a request changes nothing
abbrev pub LeavesAs : State → RequestFields → Type 0
LeavesAs s request = (update s request).state ≡ s

-- an update by a request changes the work of this number
abbrev pub UpdatesWork : State → RequestFields → ℕ → Type 0
UpdatesWork s request seq = (update s request).state ≡ with_updated request seq s
