use Rattle.std.proofs.Common.{◌≡◌, ◌^◌, ◌<◌, rules, ◌∷◌, ◌++◌, [], refl, sym, ◌∙◌, ap, subst, inl}
use Rattle.wm_engine.proofs.NextRuns.{next-kept}
use Rattle.wm_machine.specs.declared.state.State.{State}
use Rattle.wm_observe.specs.Notes.{notes_between}
use Rattle.wm_engine.proofs.Returns.{return-away, return-told, returned-made}
use Rattle.wm_engine.proofs.Steps.{kept-step}
use Rattle.wm_engine.specs.Calls.{IsOneStep}
use Rattle.wm_engine.specs.Engine.{beside}
use Rattle.wm_engine.specs.EngineState.{EngineState}
use Rattle.wm_engine.specs.Parts.{NoneOf}
use Rattle.wm_engine.specs.Returns.{IsReturnMade}
use Rattle.wm_keeper.proofs.Stores.{TellsOn-same}
use Rattle.wm_machine.specs.declared.event.Event.TheVariants as event
use Rattle.wm_engine.proofs.engine.Engine.make_return.Goals as goal

pub let_go-event-requires-clause-away : goal.let_go-event-requires-clause-away
let_go-event-requires-clause-away g c = return-away c.self.inside.view c.args.number c.returned-change.result c.returned-change.ensures

pub invariant_of-self : goal.invariant_of-self
invariant_of-self g c =
    let i = c.self.inside in
    let number = c.args.number in
    let store = g.K.Keeper.store in
    let old : EngineState g.row.K.Denot = record { state = i.view; notes = i.notes; keeper = i.keeper; roll = i.roll.parts } in
    let new : EngineState g.row.K.Denot = record old { state = c.let_go-event.new.self } in
    let made : IsReturnMade number i.view c.let_go-event.new.self =
    record { change = c.returned-change.result; is = c.returned-change.ensures; state = c.let_go-event.ensures.state } in
    let step = returned-made store number i.view old new [] (event.Late number ∷ []) made refl refl c.self.invariant.rows in
    kept-step g.M.Mark.inputs i.view c.let_go-event.new.self (store i.keeper) (store i.keeper) i.roll (event.Late number) c.self.invariant step.legal step.state
    (subst (λ (s : State). s.next_run < 2 ^ 64) (sym step.state) (subst (λ n. n < 2 ^ 64) (sym (next-kept i.view (event.Late number) step.legal tt)) c.self.invariant.few_runs))
    step.rows
    (TellsOn-same (store i.keeper) (store i.keeper) refl (λ image left. left) refl refl)
    (subst (λ (e : EngineState g.row.K.Denot). NoneOf number e.roll) (sym c.self.view_is) c.requires.off)

pub returns-clause-returned : goal.returns-clause-returned
returns-clause-returned g c =
    let i = c.self.inside in
    let number = c.args.number in
    let store = g.K.Keeper.store in
    let old : EngineState g.row.K.Denot = record { state = i.view; notes = i.notes; keeper = i.keeper; roll = i.roll.parts } in
    let new : EngineState g.row.K.Denot = record { state = c.let_go-event.new.self; notes = c.new.result; keeper = i.keeper; roll = i.roll.parts } in
    let before = c.args.events.now.items in
    let events = c.push_reserved.new.self.items in
    let made : IsReturnMade number i.view c.let_go-event.new.self =
    record { change = c.returned-change.result; is = c.returned-change.ensures; state = c.let_go-event.ensures.state } in
    let told : c.let_go-event.result ≡ event.Late number = c.let_go-event.ensures.event ∙ ap (λ change. change.event) c.returned-change.ensures.change_is in
    let pushed : events ≡ before ++ c.let_go-event.result ∷ [] = search rules in
    let appended : events ≡ before ++ event.Late number ∷ [] = pushed ∙ ap (λ e. before ++ e ∷ []) told in
    λ first. record {
      stopped = c.requires.stopped;
      step = subst (λ (e : EngineState g.row.K.Denot). IsOneStep store (event.Late number) (beside first e before) (beside first new events)) c.self.view_is
          (returned-made store number first old new before events made appended refl c.self.invariant.rows);
      keeper = ap (λ (e : EngineState g.row.K.Denot). e.keeper) c.self.view_is;
    }

pub returns-clause-noted : goal.returns-clause-noted
returns-clause-noted g c =
    let i = c.self.inside in
    let number = c.args.number in
    let before = c.args.events.now.items in
    let made : IsReturnMade number i.view c.let_go-event.new.self =
    record { change = c.returned-change.result; is = c.returned-change.ensures; state = c.let_go-event.ensures.state } in
    let pushed : c.push_reserved.new.self.items ≡ before ++ c.let_go-event.result ∷ [] = search rules in
    let state_is : i.view ≡ c.args.self.now.state = ap (λ (e : EngineState g.row.K.Denot). e.state) c.self.view_is in
    inl (record {
      made = c.let_go-event.result;
      appended = pushed;
      notes = c.new.ensures
          ∙ return-told number i.view c.let_go-event.new.self c.self.invariant.valid made
          ∙ ap (λ (s : State). notes_between s c.let_go-event.new.self) state_is;
    })
