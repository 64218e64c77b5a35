-- What the calls of an engine do: what they would do to a table with its log, whatever its first state was.
use Rattle.std.specs.Prelude.{◌≡◌, ◌⊎◌, List, [], ◌∷◌, ◌++◌}
use Rattle.wm_engine.specs.EngineState.{EngineState}
use Rattle.wm_engine.specs.TableState.{TableState}
use Rattle.wm_machine.specs.declared.event.Event.{Event}
use Rattle.wm_machine.specs.declared.state.State.{State}
use Rattle.wm_observe.specs.Notes.{notes_between}

-- an engine beside a first state and the events from it
abbrev pub beside : {K : Type 0} → State → EngineState K → List Event → TableState K
beside first engine events = record { first = first; state = engine.state; log = events; keeper = engine.keeper; roll = engine.roll }

-- so stand the engines with their events, whatever the first state was
abbrev pub Beside : {K : Type 0} → (TableState K → TableState K → Type 0) → EngineState K → List Event → EngineState K → List Event → Type 0
Beside relation old before new events = (first : State) → relation (beside first old before) (beside first new events)

-- an event was made, and the notes are what is told of it
pub record HasNoted {K : Type 0} (old : EngineState K) (before : List Event) (new : EngineState K) (events : List Event) : Type 0 where
  pub made : Event
  pub appended : events ≡ before ++ made ∷ []
  pub notes : new.notes ≡ notes_between old.state new.state

-- none was, and the notes are those of before
pub record HasNothingNoted {K : Type 0} (old : EngineState K) (before : List Event) (new : EngineState K) (events : List Event) : Type 0 where
  pub none : events ≡ before
  pub notes : new.notes ≡ old.notes

-- the notes are those of the last event
abbrev pub IsNoted : {K : Type 0} → EngineState K → List Event → EngineState K → List Event → Type 0
IsNoted old before new events = HasNoted old before new events ⊎ HasNothingNoted old before new events
