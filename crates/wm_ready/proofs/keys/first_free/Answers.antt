use Rattle.wm_ready.proofs.Leasts.{open-none}
use Rattle.wm_ready.proofs.keys.first_free.Goals as goal

pub returns-then-is_free : goal.returns-then-is_free
returns-then-is_free c = open-none c.args.keys.now c.args.part.now c.args.low c.args.high c.args.met c.args.busy.now c.first_of.result c.first_of.ensures
