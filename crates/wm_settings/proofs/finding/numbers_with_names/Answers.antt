use Rattle.std.proofs.Common.{subst}
use Rattle.std.specs.List.{list_any}
use Rattle.std.proofs.lemmas.Result.{IfOk-weaker}
use Rattle.wm_machine.specs.Group.{is_name, members_of, numbers_in}
use Rattle.wm_settings.proofs.FoundNumbers.{found-all, found-more}
use Rattle.wm_collections.specs.Sets.{AreAdded}
use Rattle.wm_settings.proofs.finding.numbers_with_names.Goals as goal

pub loop-name-preserved : goal.loop-name-preserved
loop-name-preserved c =
    let works = c.args.view.now.works in
    found-more (λ name. numbers_in (members_of works name)) c.args.names.now c.loop-name.name-index c.name-item.result c.loop-name-test.true c.name-item.is
    c.loop-name.numbers c.add_each.new.numbers c.loop-name.invariant
    (subst (λ ns. AreAdded ns c.loop-name.numbers c.add_each.new.numbers) c.members.ensures c.in_ok-add_each.ensures)

pub returns : goal.returns
returns c =
    let works = c.args.view.now.works in
    let names = c.args.names.now in
    IfOk-weaker c.numbers_of.result _ _
    (λ numbers are. are (λ work. list_any (λ name. is_name name work.name) names)
    (found-all (λ name work. is_name name work.name) names c.loop-name.name-index works c.loop-name.numbers c.loop-name-test.false c.loop-name.invariant))
    c.numbers_of.ensures
