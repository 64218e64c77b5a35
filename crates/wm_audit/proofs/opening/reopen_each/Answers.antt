use Rattle.std.proofs.Common.{set, sym, ◌∙◌, ap}
use Rattle.std.proofs.lemmas.List.Edits.{map_over_more}
use Rattle.wm_machine.specs.Opened.{reopened}
use Rattle.wm_audit.proofs.opening.reopen_each.Goals as goal

pub loop-work-preserved : goal.loop-work-preserved
loop-work-preserved c =
    let now = c.loop-work.works in
    let i = c.loop-work.work-index in
    ap (set now i) (c.wait_again.ensures ∙ ap reopened (sym c.work-item.is))
    ∙ map_over_more reopened c.args.works.now now i c.work-item.result c.loop-work-test.true c.loop-work.invariant c.work-item.is
