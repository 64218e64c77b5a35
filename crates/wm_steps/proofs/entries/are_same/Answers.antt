use Rattle.std.proofs.lemmas.Slice.Eq.{bytes_eq-Decides, slice_eq-Decides}
use Rattle.wm_steps.proofs.entries.are_same.Goals as goal

pub returns : goal.returns
returns c = (slice_eq-Decides bytes_eq-Decides c.args.own.now c.args.tags.now c.eq.result c.eq.ensures).0
