-- What a session is. This project's own.
use Rattle.std.specs.Prelude.{◌≡◌, ℕ, Bool, false, List, [], map}
use Rattle.wm_hearings.specs.declared.hearing.Stage.{Stage}
use Rattle.wm_hearings.specs.declared.hearing.Stage.TheVariants.{Open}
use Rattle.wm_leases.specs.Leases.{runs_of}
use Rattle.wm_leases.specs.declared.leases.Lease.{Lease}
use Rattle.wm_machine.specs.declared.state.State.{State}

-- the state of its engine; the leases of the runs that are out, in ascending number; the clock, which is the greatest moment heard, 0 where there
-- is none; how far it is; and whether something was heard
pub record Session : Type 0 where
  pub state : State
  pub out : List Lease
  pub clock : ℕ
  pub stage : Stage
  pub heard : Bool

-- a session that begins in this state, in which no run is out
abbrev pub begun : State → Session
begun first = record { state = first; out = []; clock = 0; stage = Open; heard = false }

-- the runs of the state are those that are out, each once
abbrev pub AreOutRuns : Session → Type 0
AreOutRuns session = runs_of session.out ≡ map (λ run. run.run) session.state.runs
