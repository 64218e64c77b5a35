use Rattle.std.proofs.Common.{◌≡◌, rules, ◌∙◌}
use Rattle.wm_machine.proofs.Counting.{counts-all}
use Rattle.wm_settings.proofs.FoundAnswers.{all-there}
use Rattle.wm_steps.proofs.Views.{reached-view}
use Rattle.wm_settings.proofs.counts.counts_of.Goals as goal

pub counts_among-requires-clause-there : goal.counts_among-requires-clause-there
counts_among-requires-clause-there c =
    let s = c.args.view.now in
    let same : c.as_slice.result.now ≡ s.works = search rules in
    all-there c.as_slice.result.now s.works same (reached-view _ s _ c.view.view_is c.view.invariant).works.in_order

pub returns : goal.returns
returns c =
    let s = c.args.view.now in
    let same : c.as_slice.result.now ≡ s.works = search rules in
    c.counts_among.ensures ∙ counts-all s c.as_slice.result.now same
