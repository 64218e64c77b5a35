use Rattle.std.proofs.Common.{◌∙◌, ap}
use Rattle.wm_machine.specs.Runs.{run_numbered}
use Rattle.wm_machine.specs.declared.state.State.{State}
use Rattle.wm_steps.proofs.view.View.run.Goals as goal

pub returns : goal.returns
returns c =
    c.run_numbered.ensures ∙ ap (run_numbered c.args.number) c.as_slice.ensures
    ∙ ap (λ (t : State). run_numbered c.args.number t.runs) c.self.view_is
