use Rattle.std.proofs.Common.{◌≡◌, ◌<◌, List, length, slice_get, Some, sym, ◌∙◌, ap, subst}
use Rattle.wm_machine.specs.declared.record.Record.{Record}
use Rattle.wm_machine.specs.declared.state.State.{State}
use Rattle.wm_steps.proofs.view.View.work_at.Goals as goal

pub at-requires : goal.at-requires
at-requires c =
    subst (λ (works : List Record). c.args.place < length works) (sym (c.as_slice.ensures ∙ ap (λ (t : State). t.works) c.self.view_is)) c.requires

pub returns : goal.returns
returns c =
    subst (λ (works : List Record). slice_get works c.args.place ≡ Some c.at.result.now)
    (c.as_slice.ensures ∙ ap (λ (t : State). t.works) c.self.view_is) c.at.ensures
