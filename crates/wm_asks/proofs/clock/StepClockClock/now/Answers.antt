use Rattle.std.proofs.Common.{arith}
use Rattle.wm_asks.proofs.Answered.{length-answers}
use Rattle.wm_asks.proofs.clock.StepClockClock.now.Goals as goal

pub overflow_add-self : goal.overflow_add-self
overflow_add-self c =
    let counted = length-answers c.args.self.now.step c.args.self.now.count in
    let few = c.requires in
    omega (arith, counted, few)
