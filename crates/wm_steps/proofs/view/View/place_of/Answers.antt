use Rattle.std.proofs.Common.{◌≡◌, ◌<◌, List, length, slice_get, None, ◌∙◌, ap, subst}
use Rattle.std.specs.Prelude.{MatchOption}
use Rattle.wm_machine.specs.Input.{work_numbered}
use Rattle.wm_machine.specs.declared.record.Record.{Record}
use Rattle.wm_machine.specs.declared.state.State.{State}
use Rattle.wm_steps.proofs.view.View.place_of.Goals as goal

pub returns : goal.returns
returns c =
    let number = c.args.number in
    let found = c.index_numbered.result in
    subst (λ (works : List Record). MatchOption found (work_numbered number works ≡ None) (λ i. (i < length works) × (work_numbered number works ≡ slice_get works i)))
    (c.as_slice.ensures ∙ ap (λ (t : State). t.works) c.self.view_is) c.index_numbered.ensures
