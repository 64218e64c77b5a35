use Rattle.std.proofs.Common.{◌++◌, ◌∙◌, ap}
use Rattle.wm_commands.proofs.Placings.{numbers-cleared, numbers-more, numbers_with}
use Rattle.wm_commands.specs.Cleared.{with_cleared}
use Rattle.wm_commands.proofs.placing.numbers_of.Goals as goal

pub loop-id-preserved : goal.loop-id-preserved
loop-id-preserved c =
    let id = c.id-item.result in
    let works = with_cleared c.args.clearing.now c.args.view.now.works in
    let placed = c.args.placed.now in
    c.in_ok-add_placed.ensures
    ∙ ap (λ numbers. numbers ++ numbers_with placed id)
    (c.in_ok-add_stored.ensures
    ∙ ap (λ numbers. c.loop-id.numbers ++ numbers) (numbers-cleared c.args.clearing.now c.args.view.now.works id)
    ∙ ap (λ numbers. numbers ++ numbers_with works id) c.loop-id.invariant)
    ∙ numbers-more works placed c.args.ids.now c.loop-id.id-index id c.loop-id-test.true c.id-item.is
