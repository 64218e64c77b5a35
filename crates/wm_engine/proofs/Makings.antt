-- What the step of a view makes of an engine, beside any first state and any events.
use Rattle.std.proofs.Common.{◌≡◌, List, ◌∷◌, ◌++◌, [], Ok, Err, subst}
use Rattle.wm_changes.specs.StepChanges.{changed_state, row_changes, IsStepOf}
use Rattle.wm_changes.specs.declared.change.StepChange.{StepChange}
use Rattle.wm_engine.proofs.Images.{images-kept, images-made}
use Rattle.wm_engine.proofs.StepRows.{rows-made}
use Rattle.wm_engine.proofs.Steps.{made-step, refused-step}
use Rattle.wm_engine.specs.Calls.{IsOneStep, IsUntouched}
use Rattle.wm_engine.specs.Engine.{beside}
use Rattle.wm_engine.specs.EngineState.{EngineState}
use Rattle.wm_engine.specs.Rows.{HoldsRowsOf}
use Rattle.wm_keeper.specs.Store.{Store}
use Rattle.wm_keeper.specs.declared.keeper.KeepFault.{KeepFault}
use Rattle.wm_keeper.specs.declared.row.Change.{Change}
use Rattle.wm_machine.specs.Valid.{Valid}
use Rattle.wm_machine.specs.declared.event.Event.{Event}
use Rattle.wm_machine.specs.declared.state.State.{State}
use Rattle.wm_steps.specs.Stored.{IsStored}

module _ {K : Type 0} (store : K → Store) (old : EngineState K) (change : StepChange) (valid : Valid old.state) (rows : HoldsRowsOf old.state (store old.keeper))
    (is : IsStepOf old.state change) (changes : List Change) (changes_are : changes ≡ row_changes change) where
  -- the rows held are those of the state after it
  pub held-made : {T : Type 0} (value : T) (state : State) (keeper : K) → state ≡ changed_state change old.state
      → IsStored changes (Ok value) (store old.keeper) (store keeper) → HoldsRowsOf state (store keeper)
  held-made value state keeper state_is stored =
      let its = subst (λ (all : List Change). IsStored all (Ok value) (store old.keeper) (store keeper)) changes_are stored in
      rows-made old.state state change (store old.keeper) (store keeper) valid is.fits rows state_is its.ok

  -- it is one step
  pub step-made : {T : Type 0} (value : T) (first : State) (before : List Event) (new : EngineState K) (events : List Event)
      → new.state ≡ changed_state change old.state → events ≡ before ++ change.event ∷ []
      → IsStored changes (Ok value) (store old.keeper) (store new.keeper) → IsOneStep store change.event (beside first old before) (beside first new events)
  step-made value first before new events state_is events_are stored =
      let its = subst (λ (all : List Change). IsStored all (Ok value) (store old.keeper) (store new.keeper)) changes_are stored in
      made-step store (beside first old before) change new.state events new.keeper new.roll is state_is events_are
      (held-made value new.state new.keeper state_is stored)
      (images-made old.state new.state change (store old.keeper) (store new.keeper) valid is.fits rows state_is its.images)

  -- and a refused one leaves all
  pub step-refused : {T : Type 0} (fault : KeepFault) (first : State) (before : List Event) (new : EngineState K) (events : List Event)
      → new.state ≡ old.state → events ≡ before → IsStored {T = T} changes (Err fault) (store old.keeper) (store new.keeper)
      → IsUntouched store (λ e. e ≡ change.event) (beside first old before) (beside first new events)
  step-refused {T} fault first before new events state_is events_are stored =
      let its = subst (λ (all : List Change). IsStored {T = T} all (Err fault) (store old.keeper) (store new.keeper)) changes_are stored in
      refused-step store (beside first old before) change new.state events new.keeper new.roll is state_is events_are its.err
      (images-kept old.state change (store old.keeper) (store new.keeper) valid is.fits rows its.images_err)
