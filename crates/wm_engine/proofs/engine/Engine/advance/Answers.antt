use Rattle.std.proofs.Common.{◌≡◌, ◌^◌, ◌<◌, sym, ap, subst}
use Rattle.std.proofs.lemmas.Result.{on_err_weaker, on_ok_weaker}
use Rattle.wm_changes.specs.StepChanges.{next_run_by}
use Rattle.wm_engine.proofs.Besides.{turned-made, turned-refused}
use Rattle.wm_engine.proofs.NextRuns.{few-kept, BeginsNone}
use Rattle.wm_engine.specs.Engine.{beside}
use Rattle.wm_engine.specs.EngineState.{EngineState}
use Rattle.wm_machine.specs.Step.{role_of}
use Rattle.wm_machine.specs.declared.event.Event.{Event}
use Rattle.wm_machine.specs.declared.state.State.{State}
use Rattle.wm_engine.proofs.engine.Engine.advance.Goals as goal

pub make-requires-clause-few : goal.make-requires-clause-few
make-requires-clause-few g c =
    let is = c.in_ok-change.ensures in
    let change = c.in_ok-change.change in
    let s = c.self.inside.view in
    let state_is : s ≡ c.args.self.now.state = ap (λ (e : EngineState g.row.K.Denot). e.state) c.self.view_is in
    subst (λ (t : State). next_run_by change.run t.next_run < 2 ^ 64) state_is
    (few-kept s change is.step (subst (λ (e : Event). BeginsNone (role_of e)) (sym is.event_is) tt) c.self.invariant.few_runs)

pub returns-clause-ok : goal.returns-clause-ok
returns-clause-ok g c =
    let is = c.in_ok-change.ensures in
    let change = c.in_ok-change.change in
    let s = c.self.inside.view in
    let state_is : c.args.self.now.state ≡ s = ap (λ (e : EngineState g.row.K.Denot). e.state) (sym c.self.view_is) in
    on_ok_weaker c.make.result
    (λ step first.
    turned-made g.K.Keeper.store (beside first c.args.self.now c.args.events.now.items) (beside first c.make.new.self c.make.new.events.items) s c.args.number
    c.args.told.now change state_is is (step first) (c.make.ensures.untouched_keeper is.rows)) c.make.ensures.ok

pub returns-clause-err : goal.returns-clause-err
returns-clause-err g c =
    on_err_weaker c.make.result
    (λ same first.
    turned-refused g.K.Keeper.store (beside first c.args.self.now c.args.events.now.items) (beside first c.make.new.self c.make.new.events.items)
    c.self.inside.view c.args.number c.args.told.now c.in_ok-change.change c.in_ok-change.ensures (same first)) c.make.ensures.err
