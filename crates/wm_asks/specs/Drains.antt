-- A drain: all that is startable is started and driven to its end, one work after another, until nothing is left to do.
use Rattle.std.specs.Prelude.{◌≡◌, ℕ, ◌≤◌, true, List, [], ◌++◌}
use Rattle.wm_conditions.specs.Met.{met}
use Rattle.wm_machine.specs.Due.{due_of}
use Rattle.wm_machine.specs.First.{all_met, is_waiting}
use Rattle.wm_machine.specs.Log.{commands_of}
use Rattle.wm_machine.specs.Quiet.{IsQuiet}
use Rattle.wm_machine.specs.Replay.{Replay}
use Rattle.wm_machine.specs.Serial.{AreInTurn}
use Rattle.wm_machine.specs.declared.event.Event.{Event}
use Rattle.wm_machine.specs.declared.event.Event.TheVariants as event
use Rattle.wm_machine.specs.declared.record.Record.{Record}
use Rattle.wm_machine.specs.declared.state.State.{State}

-- the events go on from a state as a drain does: they are steps, each in its turn, and none is a line
pub record GoesAsDrain (s : State) (events : List Event) (now : State) : Type 0 where
  pub replay : Replay s events now
  pub silent : commands_of events ≡ []
  pub in_turn : AreInTurn s events

-- they do so until nothing is left to do
pub record IsDrain (s : State) (events : List Event) (last : State) : Type 0 where
  pub goes : GoesAsDrain s events last
  pub quiet : IsQuiet last

-- a front of a drain
pub record BeginsDrain (s : State) (events : List Event) : Type 0 where
  pub rest : List Event
  pub last : State
  pub whole : IsDrain s (events ++ rest) last

-- ---- what a drain starts

-- the work of this number starts, or can't
abbrev pub IsStartOf : ℕ → Event → Type 0
IsStartOf number (event.Start run seq instance input) = seq ≡ number
IsStartOf number (event.StartFailed seq cause) = seq ≡ number
IsStartOf number _ = ⊥

-- the work of this number waits for nothing but a worker: it is due, its prerequisites have succeeded, and its constraints are met
pub record IsReady (number : ℕ) (s : State) (work : Record) : Type 0 where
  pub seq : work.seq ≡ number
  pub waiting : is_waiting work.phase ≡ true
  pub prerequisites : all_met s.works work ≡ true
  pub due : due_of work ≤ s.now
  pub constraints : met work.request.constraints s.conditions ≡ true
