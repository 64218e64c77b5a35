use Rattle.std.proofs.Common.{◌≡◌, subst}
use Rattle.wm_engine.proofs.NextRuns.{few-line}
use Rattle.wm_engine.proofs.Steps.{line-made, IsUntouched-as}
use Rattle.wm_engine.specs.Calls.{IsOneStep}
use Rattle.wm_engine.specs.Engine.{beside}
use Rattle.wm_engine.specs.Images.{IsLine}
use Rattle.wm_machine.specs.declared.event.Event.{Event}
use Rattle.wm_settings.proofs.Executions.{no-row-changes}
use Rattle.wm_engine.proofs.engine.Engine.command.Goals as goal

pub make-requires-clause-few : goal.make-requires-clause-few
make-requires-clause-few g c =
    let state_is : c.look_ahead.new.self.state ≡ c.self.inside.view = cc in
    let made = c.in_ok-change.ensures in
    few-line c.self.inside.view c.look_ahead.new.self.state c.in_ok-change.change c.args.line c.args.command c.in_ok-change.reply state_is made.executed.step
    made.event_is c.self.invariant.few_runs

pub returns-in-Ok-clause-ok : goal.returns-in-Ok-clause-ok
returns-in-Ok-clause-ok g c =
    let before = c.args.events.now.items in
    let events = c.make.new.events.items in
    rw (← c.look_ahead.ensures)
    (λ first. subst (λ (e : Event). IsOneStep g.K.Keeper.store e (beside first c.look_ahead.new.self before) (beside first c.make.new.self events))
    c.in_ok-change.ensures.event_is (c.in-Ok.ensures.ok first))

pub returns-in-Err-clause-err : goal.returns-in-Err-clause-err
returns-in-Err-clause-err g c =
    let change = c.in_ok-change.change in
    rw (← c.look_ahead.ensures)
    (λ first. IsUntouched-as g.K.Keeper.store (λ e. e ≡ change.event) (IsLine c.args.line c.args.command)
    (beside first c.look_ahead.new.self c.args.events.now.items) (beside first c.make.new.self c.make.new.events.items)
    (λ e same. line-made c.args.line c.args.command c.in_ok-change.reply e change.event same c.in_ok-change.ensures.event_is) (c.in-Err.ensures.err first))

pub returns-in-Ok-clause-untouched_keeper : goal.returns-in-Ok-clause-untouched_keeper
returns-in-Ok-clause-untouched_keeper g c =
    let state_is : c.look_ahead.new.self.state ≡ c.self.inside.view = cc in
    let made = c.in_ok-change.ensures in
    rw (← c.look_ahead.ensures) (λ same. c.in-Ok.ensures.untouched_keeper (no-row-changes _ _ _ c.args.command _ state_is made.executed same))

pub returns-in-Err-clause-untouched_keeper : goal.returns-in-Err-clause-untouched_keeper
returns-in-Err-clause-untouched_keeper g c =
    let state_is : c.look_ahead.new.self.state ≡ c.self.inside.view = cc in
    let made = c.in_ok-change.ensures in
    rw (← c.look_ahead.ensures) (λ same. c.in-Err.ensures.untouched_keeper (no-row-changes _ _ _ c.args.command _ state_is made.executed same))
