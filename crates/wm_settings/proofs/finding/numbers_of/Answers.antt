use Rattle.std.proofs.Common.{◌∙◌}
use Rattle.wm_settings.proofs.FoundNumbers.{listed-are}
use Rattle.wm_steps.proofs.Views.{reached-view}
use Rattle.wm_settings.proofs.finding.numbers_of.Goals as goal

pub returns : goal.returns
returns c = λ test has.
    let s = c.args.view.now in
    let order = (reached-view _ s _ c.view.view_is c.view.invariant).works.in_order in
    c.from_vec.ensures ∙ listed-are test s.works c.args.numbers.now c.in_ok-list.list.items order c.in_ok-list.ensures has
