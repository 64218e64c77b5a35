use Rattle.std.proofs.Common.{arith, take}
use Rattle.std.proofs.lemmas.Grind.{common_steps}
use Rattle.wm_columns.proofs.columns.prior_bytes.Goals as goal

pub loop-number-preserved : goal.loop-number-preserved
loop-number-preserved c =
    let after = c.in_ok-push_number.ensures (take c.loop-number.number-index c.args.numbers.now) c.loop-number.invariant in
    grind (arith, common_steps, after)
