use Rattle.std.proofs.Common.{Option, Some, slice_get, subst}
use Rattle.wm_machine.specs.declared.record.Record.{Record}
use Rattle.wm_changes.specs.declared.change.Replacement.{Replacement}
use Rattle.wm_steps.proofs.Pointwise.{left-more}
use Rattle.wm_steps.specs.Readied.{is_settled, AreLeft}
use Rattle.wm_steps.proofs.readying.settle_replaced.Goals as goal

pub loop-replacement-preserved : goal.loop-replacement-preserved
loop-replacement-preserved c =
    left-more (λ entry (r : Replacement). is_settled c.args.classes.now c.args.graph.now (slice_get c.args.works.now r.index) (Some r.work) entry) c.args.replaced.now c.loop-replacement.replacement-index c.replacement-item.result
    c.args.ready.now c.loop-replacement.ready c.settle.new.ready c.loop-replacement-test.true c.replacement-item.is c.loop-replacement.invariant
    (subst (λ (o : Option Record). AreLeft (is_settled c.args.classes.now c.args.graph.now o (Some c.replacement-item.result.work)) c.loop-replacement.ready c.settle.new.ready) c.place-old.ensures c.settle.ensures)
