use Rattle.std.proofs.Common.{filter}
use Rattle.std.specs.Str.{bytes_eq}
use Rattle.std.proofs.lemmas.Result.{IfOk-weaker}
use Rattle.wm_machine.specs.Group.{numbers_in}
use Rattle.wm_request.specs.Batches.{has_id}
use Rattle.wm_settings.proofs.FoundNumbers.{found-all, found-more}
use Rattle.wm_settings.proofs.finding.numbers_with_ids.Goals as goal

pub loop-id-preserved : goal.loop-id-preserved
loop-id-preserved c =
    let works = c.args.view.now.works in
    found-more (λ id. numbers_in (filter (λ work. bytes_eq id work.request.id) works)) c.args.ids.now c.loop-id.id-index c.id-item.result
    c.loop-id-test.true c.id-item.is c.loop-id.numbers c.add_with_id.new.numbers c.loop-id.invariant c.in_ok-add_with_id.ensures

pub returns : goal.returns
returns c =
    let works = c.args.view.now.works in
    let ids = c.args.ids.now in
    IfOk-weaker c.numbers_of.result _ _
    (λ numbers are. are (λ work. has_id ids work.request.id)
    (found-all (λ id work. bytes_eq id work.request.id) ids c.loop-id.id-index works c.loop-id.numbers c.loop-id-test.false c.loop-id.invariant))
    c.numbers_of.ensures
