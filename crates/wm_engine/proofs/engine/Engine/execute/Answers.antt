use Rattle.std.proofs.Common.{◌≡◌, subst}
use Rattle.std.proofs.lemmas.Result.{on_err_weaker, on_ok_weaker}
use Rattle.wm_engine.proofs.NextRuns.{few-line}
use Rattle.wm_engine.proofs.Steps.{line-made, IsUntouched-as}
use Rattle.wm_engine.specs.Calls.{IsOneStep}
use Rattle.wm_engine.specs.Engine.{beside}
use Rattle.wm_engine.specs.Images.{IsLine}
use Rattle.wm_machine.specs.declared.event.Event.{Event}
use Rattle.wm_settings.proofs.Executions.{no-row-changes}
use Rattle.wm_engine.proofs.engine.Engine.execute.Goals as goal

pub make-requires-clause-few : goal.make-requires-clause-few
make-requires-clause-few g c =
    let state_is : c.look_ahead.new.self.state ≡ c.self.inside.view = cc in
    let executed = c.in_ok-change.ensures in
    few-line c.self.inside.view c.look_ahead.new.self.state c.in_ok-change.change c.args.line c.args.command executed.reply state_is executed.step executed.event
    c.self.invariant.few_runs

pub returns-clause-ok : goal.returns-clause-ok
returns-clause-ok g c =
    let executed = c.in_ok-change.ensures in
    let before = c.args.events.now.items in
    let events = c.make.new.events.items in
    rw (← c.look_ahead.ensures)
    (on_ok_weaker c.make.result
    (λ step first. (
      executed.reply,
      subst (λ (e : Event). IsOneStep g.K.Keeper.store e (beside first c.look_ahead.new.self before) (beside first c.make.new.self events)) executed.event (step first),
    )) c.make.ensures.ok)

pub returns-clause-err : goal.returns-clause-err
returns-clause-err g c =
    let change = c.in_ok-change.change in
    let executed = c.in_ok-change.ensures in
    rw (← c.look_ahead.ensures)
    (on_err_weaker c.make.result
    (λ same first. IsUntouched-as g.K.Keeper.store (λ e. e ≡ change.event) (IsLine c.args.line c.args.command)
    (beside first c.look_ahead.new.self c.args.events.now.items) (beside first c.make.new.self c.make.new.events.items)
    (λ e same. line-made c.args.line c.args.command executed.reply e change.event same executed.event) (same first)) c.make.ensures.err)

pub returns-clause-untouched_keeper : goal.returns-clause-untouched_keeper
returns-clause-untouched_keeper g c =
    let state_is : c.look_ahead.new.self.state ≡ c.self.inside.view = cc in
    let executed = c.in_ok-change.ensures in
    rw (← c.look_ahead.ensures) (λ same. c.make.ensures.untouched_keeper (no-row-changes _ _ _ c.args.command _ state_is executed same))
