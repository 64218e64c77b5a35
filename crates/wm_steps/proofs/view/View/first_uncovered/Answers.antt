use Rattle.wm_steps.proofs.LastMembers.{last-ascend, leaves-among, leaves-past, mark-first}
use Rattle.wm_graph.proofs.ListedNumbers.{rising-ascend}
use Rattle.wm_steps.proofs.Views.{reached-view}
use Rattle.wm_steps.proofs.view.View.first_uncovered.Goals as goal

pub loop-number-init : goal.loop-number-init
loop-number-init c =
    let s = c.args.self.now in
    leaves-among s c.args.name.now c.last_members-last.result.now (reached-view _ s _ c.self.view_is c.self.invariant) c.last_members-last.ensures

pub is_before_any-requires : goal.is_before_any-requires
is_before_any-requires c =
    let s = c.args.self.now in
    let last = c.last_members-last.result.now in
    rising-ascend last (last-ascend s c.args.name.now last (reached-view _ s _ c.self.view_is c.self.invariant) c.last_members-last.ensures)

pub returns-then-not-is_before_any : goal.returns-then-not-is_before_any
returns-then-not-is_before_any c =
    let s = c.args.self.now in
    mark-first s c.args.name.now c.last_members-last.result.now (reached-view _ s _ c.self.view_is c.self.invariant) c.last_members-last.ensures
    c.loop-number.number-index c.loop-number-test.true c.loop-number.invariant

pub loop-number-preserved : goal.loop-number-preserved
loop-number-preserved c =
    let s = c.args.self.now in
    leaves-past s c.args.name.now c.last_members-last.result.now (reached-view _ s _ c.self.view_is c.self.invariant) c.last_members-last.ensures
    c.loop-number.number-index c.loop-number-test.true
    (c.is_before_any.ensures c.if-not-is_before_any.false) c.loop-number.invariant
