use Rattle.std.proofs.Common.{◌≡◌, filter, take_all, sym, ◌∙◌, ap, subst}
use Rattle.wm_commands.proofs.ClearedNumbers.{numbers-ascend, removed-numbered}
use Rattle.wm_commands.specs.Cleared.{is_removable_then, is_removed, removed_by}
use Rattle.wm_steps.proofs.Views.{reached-view}
use Rattle.wm_graph.specs.Numbers.{Ascend}
use Rattle.wm_unique.specs.Plans.{numbered_passes}
use Rattle.wm_commands.proofs.clearing.removed_by.Goals as goal

pub of-requires : goal.of-requires
of-requires c =
    let works = c.args.view.now.works in
    let cancelled = c.args.cancelled.now in
    let let_go = c.args.let_go.now in
    let order = (reached-view _ c.args.view.now _ c.view.view_is c.view.invariant).works.in_order in
    let all : c.loop-number.numbers ≡ removed_by cancelled let_go works =
    c.loop-number.invariant
    ∙ ap (filter (numbered_passes (is_removable_then cancelled works) works)) (take_all c.loop-number.number-index let_go c.loop-number-test.false)
    ∙ removed-numbered cancelled let_go works order c.requires in
    subst Ascend (sym all) (numbers-ascend (is_removed cancelled let_go works) works order)

pub returns : goal.returns
returns c =
    let works = c.args.view.now.works in
    let cancelled = c.args.cancelled.now in
    let let_go = c.args.let_go.now in
    let order = (reached-view _ c.args.view.now _ c.view.view_is c.view.invariant).works.in_order in
    c.of.ensures ∙ c.loop-number.invariant
    ∙ ap (filter (numbered_passes (is_removable_then cancelled works) works)) (take_all c.loop-number.number-index let_go c.loop-number-test.false)
    ∙ removed-numbered cancelled let_go works order c.requires
