use Rattle.std.proofs.Common.{◌≡◌, ◌^◌, ◌<◌, ◌∙◌, ap, sym, subst}
use Rattle.wm_changes.specs.StepChanges.{next_run_by, IsStepOf}
use Rattle.wm_engine.proofs.NextRuns.{few-more}
use Rattle.wm_engine.specs.EngineState.{EngineState}
use Rattle.wm_engine.specs.declared.engine.Engine.TheInside.{Inside}
use Rattle.wm_machine.specs.declared.state.State.{State}
use Rattle.wm_engine.proofs.engine.Engine.make_start.Goals as goal

pub make-requires-clause-few : goal.make-requires-clause-few
make-requires-clause-few g c =
    let s = c.self.inside.view in
    let state_is : s ≡ c.args.self.now.state = ap (λ (e : EngineState g.row.K.Denot). e.state) c.self.view_is in
    let last : s.next_run ≡ 18446744073709551615 → ⊥ = λ e. c.if-self.false (ap (λ (i : Inside g.row.K.Denot g.row.M.Denot). i.view.next_run) c.self-inside.view_is ∙ e) in
    let is : IsStepOf s c.args.change = subst (λ (t : State). IsStepOf t c.args.change) (sym state_is) c.requires.step in
    subst (λ (t : State). next_run_by c.args.change.run t.next_run < 2 ^ 64) state_is (few-more s c.args.change is c.self.invariant.few_runs last)
