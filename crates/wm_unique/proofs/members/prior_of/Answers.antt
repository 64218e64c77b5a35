use Rattle.std.proofs.Common.{ap, ◌∙◌}
use Rattle.std.proofs.lemmas.List.{take_all}
use Rattle.std.specs.List.{list_any}
use Rattle.wm_collections.specs.Lists.{is_among}
use Rattle.wm_unique.proofs.Numbered.{any_numbered}
use Rattle.wm_unique.proofs.NumberSets.{brought-more}
use Rattle.wm_unique.specs.Plans.{numbered_passes}
use Rattle.wm_unique.proofs.members.prior_of.Goals as goal

pub loop-number-preserved : goal.loop-number-preserved
loop-number-preserved c =
    brought-more (λ number other. numbered_passes (λ work. is_among work.prior other) c.args.works.now number) c.args.group.now c.loop-number.number-index
    c.loop-number-test.true c.loop-number.prior _ c.loop-number.invariant c.in_ok-add_prior.ensures

pub returns : goal.returns
returns c =
    let works = c.args.works.now in
    let group = c.args.group.now in
    λ other. c.loop-number.invariant other
    ∙ ap (list_any (numbered_passes (λ work. is_among work.prior other) works)) (take_all c.loop-number.number-index group c.loop-number-test.false)
    ∙ any_numbered (λ work. is_among work.prior other) works group c.requires.in_order c.requires.group
