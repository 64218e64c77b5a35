use Rattle.std.proofs.Common.{rules}
use Rattle.wm_rows.proofs.Order.{above-last}
use Rattle.wm_rows.proofs.sound.is_above.Goals as goal

pub returns-in-Some : goal.returns-in-Some
returns-in-Some c = above-last c.args.work.now c.args.before.now c.in-Some.last.now c.requires (search rules)
