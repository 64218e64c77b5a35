use Rattle.std.proofs.Common.{Some, None}
use Rattle.wm_machine.specs.declared.record.Record.{Record}
use Rattle.wm_steps.proofs.Pointwise.{left-more}
use Rattle.wm_steps.specs.Readied.{is_settled}
use Rattle.wm_steps.proofs.readying.drop_placed.Goals as goal

pub loop-work-preserved : goal.loop-work-preserved
loop-work-preserved c =
    left-more (λ entry (r : Record). is_settled c.args.classes.now c.args.graph.now (Some r) None entry) c.args.placed.now c.loop-work.work-index c.work-item.result
    c.args.ready.now c.loop-work.ready c.settle.new.ready c.loop-work-test.true c.work-item.is c.loop-work.invariant
    c.settle.ensures
