-- What a contract sees of an engine.
use Rattle.std.specs.Prelude.{List}
use Rattle.wm_machine.specs.declared.state.State.{State}
use Rattle.wm_observe.specs.declared.note.Note.{Note}
use Rattle.wm_roll.specs.declared.part.Part.{Part}

-- the state, the notes of the last event, the keeper of the rows, and the parts that stand on the roll
pub record EngineState (K : Type 0) : Type 0 where
  pub state : State
  pub notes : List Note
  pub keeper : K
  pub roll : List Part
