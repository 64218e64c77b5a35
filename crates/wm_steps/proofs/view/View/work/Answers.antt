use Rattle.std.proofs.Common.{◌∙◌, ap}
use Rattle.wm_machine.specs.Input.{work_numbered}
use Rattle.wm_machine.specs.declared.state.State.{State}
use Rattle.wm_steps.proofs.Lookups.{found-there}
use Rattle.wm_steps.proofs.view.View.work.Goals as goal

pub returns-clause-found : goal.returns-clause-found
returns-clause-found c =
    c.work_numbered.ensures ∙ ap (work_numbered c.args.number) c.as_slice.ensures
    ∙ ap (λ (t : State). work_numbered c.args.number t.works) c.self.view_is

pub returns-clause-there : goal.returns-clause-there
returns-clause-there c =
    found-there c.args.number c.args.self.now.works c.work_numbered.result
    (c.work_numbered.ensures ∙ ap (work_numbered c.args.number) c.as_slice.ensures
    ∙ ap (λ (t : State). work_numbered c.args.number t.works) c.self.view_is)
