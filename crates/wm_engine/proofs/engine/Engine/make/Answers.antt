use Rattle.std.proofs.Common.{◌≡◌, ◌^◌, ◌<◌, rules, ◌∷◌, ◌++◌, [], Result, Ok, Err, refl, sym, ◌∙◌, ap, subst}
use Rattle.std.specs.Prelude.{OnErr}
use Rattle.wm_changes.specs.StepChanges.{next_run_by, IsStepOf}
use Rattle.wm_engine.proofs.Makings.{held-made, step-made, step-refused}
use Rattle.wm_engine.proofs.StepRows.{removed_fit}
use Rattle.wm_engine.proofs.Steps.{kept-step}
use Rattle.wm_engine.specs.Engine.{beside}
use Rattle.wm_engine.specs.Calls.{IsOneStep, IsUntouched}
use Rattle.wm_engine.specs.EngineState.{EngineState}
use Rattle.wm_engine.specs.Parts.{IsOffRoll}
use Rattle.wm_machine.specs.Step.{role_of}
use Rattle.wm_machine.specs.declared.state.State.{State}
use Rattle.wm_engine.proofs.engine.Engine.make.Goals as goal

pub row_changes-requires-clause-removed : goal.row_changes-requires-clause-removed
row_changes-requires-clause-removed g c =
    let i = c.self.inside in
    let state_is : c.args.self.now.state ≡ i.view = ap (λ (e : EngineState g.row.K.Denot). e.state) (sym c.self.view_is) in
    let is : IsStepOf i.view c.args.change = subst (λ (s : State). IsStepOf s c.args.change) state_is c.requires.step in
    removed_fit i.view c.args.change c.self.invariant.valid is.fits

-- what holds holds on a refusal
on_refusal : {T E P : Type 0} (answer : Result T E) → P → OnErr answer P
on_refusal (Ok value) holds = tt
on_refusal (Err refusal) holds = holds

pub returns-in_err-event-clause-err : goal.returns-in_err-event-clause-err
returns-in_err-event-clause-err g c =
    let i = c.self.inside in
    let store = g.K.Keeper.store in
    let old : EngineState g.row.K.Denot = record { state = i.view; notes = i.notes; keeper = i.keeper; roll = i.roll.parts } in
    let new : EngineState g.row.K.Denot = record { state = c.step.new.self; notes = i.notes; keeper = c.step.new.keeper; roll = i.roll.parts } in
    let state_is : c.args.self.now.state ≡ i.view = ap (λ (e : EngineState g.row.K.Denot). e.state) (sym c.self.view_is) in
    let is : IsStepOf i.view c.args.change = subst (λ (s : State). IsStepOf s c.args.change) state_is c.requires.step in
    let refused = c.in_err-event.ensures in
    let changes_are = c.deref.ensures.value ∙ c.in_ok-changes.ensures in
    on_refusal c.from_residual-in_err-event.result
    (λ first. subst (λ (e : EngineState g.row.K.Denot). IsUntouched store (λ e. e ≡ c.args.change.event) (beside first e c.args.events.now.items) (beside first new c.args.events.now.items)) c.self.view_is
    (step-refused store old c.args.change c.self.invariant.valid c.self.invariant.rows is _ changes_are c.in_err-event.field-0.0 first c.args.events.now.items new c.args.events.now.items refused.state_err refl refused.stored))

pub invariant_of-self-2 : goal.invariant_of-self-2
invariant_of-self-2 g c =
    let i = c.self.inside in
    let store = g.K.Keeper.store in
    let old : EngineState g.row.K.Denot = record { state = i.view; notes = i.notes; keeper = i.keeper; roll = i.roll.parts } in
    let state_is : c.args.self.now.state ≡ i.view = ap (λ (e : EngineState g.row.K.Denot). e.state) (sym c.self.view_is) in
    let is : IsStepOf i.view c.args.change = subst (λ (s : State). IsStepOf s c.args.change) state_is c.requires.step in
    let done = c.in_ok-event.ensures in
    let changes_are = c.deref.ensures.value ∙ c.in_ok-changes.ensures in
    let few : next_run_by c.args.change.run i.view.next_run < 2 ^ 64 = subst (λ (s : State). next_run_by c.args.change.run s.next_run < 2 ^ 64) state_is c.requires.few in
    kept-step g.M.Mark.inputs i.view c.step.new.self (store i.keeper) (store c.step.new.keeper) i.roll c.args.change.event c.self.invariant is.legal
    (done.state ∙ is.state) (subst (λ (s : State). s.next_run < 2 ^ 64) (sym done.state) few)
    (held-made store old c.args.change c.self.invariant.valid c.self.invariant.rows is _ changes_are c.in_ok-event.event c.step.new.self c.step.new.keeper done.state done.stored)
    done.stored.tells_on
    (subst (λ (e : EngineState g.row.K.Denot). IsOffRoll (role_of c.args.change.event) e.roll) (sym c.self.view_is) c.requires.off)

pub returns-clause-ok : goal.returns-clause-ok
returns-clause-ok g c =
    let i = c.self.inside in
    let store = g.K.Keeper.store in
    let old : EngineState g.row.K.Denot = record { state = i.view; notes = i.notes; keeper = i.keeper; roll = i.roll.parts } in
    let new : EngineState g.row.K.Denot = record { state = c.step.new.self; notes = c.in_ok-notes.notes; keeper = c.step.new.keeper; roll = i.roll.parts } in
    let state_is : c.args.self.now.state ≡ i.view = ap (λ (e : EngineState g.row.K.Denot). e.state) (sym c.self.view_is) in
    let is : IsStepOf i.view c.args.change = subst (λ (s : State). IsStepOf s c.args.change) state_is c.requires.step in
    let done = c.in_ok-event.ensures in
    let changes_are = c.deref.ensures.value ∙ c.in_ok-changes.ensures in
    let events = c.push_reserved.new.self.items in
    let appended : events ≡ c.args.events.now.items ++ c.args.change.event ∷ [] = search rules in
    λ first. subst (λ (e : EngineState g.row.K.Denot). IsOneStep store c.args.change.event (beside first e c.args.events.now.items) (beside first new events)) c.self.view_is
    (step-made store old c.args.change c.self.invariant.valid c.self.invariant.rows is _ changes_are c.in_ok-event.event first c.args.events.now.items new events done.state appended done.stored)
