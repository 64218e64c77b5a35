use Rattle.std.proofs.Common.{filter, subst}
use Rattle.std.specs.List.{list_any}
use Rattle.std.proofs.lemmas.Result.{IfOk-weaker}
use Rattle.wm_machine.specs.Group.{numbers_in}
use Rattle.wm_machine.specs.Queried.{has_tag}
use Rattle.wm_settings.proofs.FoundNumbers.{found-all, found-more}
use Rattle.wm_collections.specs.Sets.{AreAdded}
use Rattle.wm_settings.proofs.finding.numbers_with_tags.Goals as goal

pub loop-tag-preserved : goal.loop-tag-preserved
loop-tag-preserved c =
    let works = c.args.view.now.works in
    found-more (λ tag. numbers_in (filter (λ work. has_tag work.request.tags tag) works)) c.args.tags.now c.loop-tag.tag-index c.tag-item.result
    c.loop-tag-test.true c.tag-item.is c.loop-tag.numbers c.add_each.new.numbers c.loop-tag.invariant
    (subst (λ ns. AreAdded ns c.loop-tag.numbers c.add_each.new.numbers) c.tagged.ensures c.in_ok-add_each.ensures)

pub returns : goal.returns
returns c =
    let works = c.args.view.now.works in
    let tags = c.args.tags.now in
    IfOk-weaker c.numbers_of.result _ _
    (λ numbers are. are (λ work. list_any (has_tag work.request.tags) tags)
    (found-all (λ tag work. has_tag work.request.tags tag) tags c.loop-tag.tag-index works c.loop-tag.numbers c.loop-tag-test.false c.loop-tag.invariant))
    c.numbers_of.ensures
