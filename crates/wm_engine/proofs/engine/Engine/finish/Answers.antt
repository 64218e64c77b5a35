use Rattle.std.proofs.Common.{◌≡◌, ◌^◌, ◌<◌, sym, ap, subst}
use Rattle.std.proofs.lemmas.Result.{on_err_weaker, on_ok_weaker}
use Rattle.wm_changes.specs.StepChanges.{next_run_by}
use Rattle.wm_engine.proofs.Besides.{finished-made, finished-refused}
use Rattle.wm_engine.proofs.NextRuns.{few-kept, BeginsNone}
use Rattle.wm_engine.specs.Engine.{beside}
use Rattle.wm_engine.specs.EngineState.{EngineState}
use Rattle.wm_machine.specs.declared.state.State.{State}
use Rattle.wm_engine.proofs.engine.Engine.finish.Goals as goal

pub make-requires-clause-few : goal.make-requires-clause-few
make-requires-clause-few g c =
    let is = c.in_ok-change.ensures in
    let change = c.in_ok-change.change in
    let s = c.self.inside.view in
    let state_is : s ≡ c.args.self.now.state = ap (λ (e : EngineState g.row.K.Denot). e.state) c.self.view_is in
    subst (λ (t : State). next_run_by change.run t.next_run < 2 ^ 64) state_is
    (few-kept s change is.step (subst BeginsNone (sym is.ends) tt) c.self.invariant.few_runs)

pub returns-clause-ok : goal.returns-clause-ok
returns-clause-ok g c =
    on_ok_weaker c.make.result
    (λ step first.
    finished-made g.K.Keeper.store (beside first c.args.self.now c.args.events.now.items) (beside first c.make.new.self c.make.new.events.items)
    c.self.inside.view c.args.number c.args.told.now c.in_ok-change.change c.in_ok-change.ensures (step first)) c.make.ensures.ok

pub returns-clause-err : goal.returns-clause-err
returns-clause-err g c =
    on_err_weaker c.make.result
    (λ same first.
    finished-refused g.K.Keeper.store (beside first c.args.self.now c.args.events.now.items) (beside first c.make.new.self c.make.new.events.items)
    c.self.inside.view c.args.number c.args.told.now c.in_ok-change.change c.in_ok-change.ensures (same first)) c.make.ensures.err
