use Rattle.std.proofs.Common.{sym}
use Rattle.wm_lifecycle.proofs.InstancePlaces.{out-none, out-there}
use Rattle.wm_lifecycle.proofs.instances.set_at_out.Goals as goal

pub returns-then-index-instances : goal.returns-then-index-instances
returns-then-index-instances c =
    sym (out-there c.args.out c.args.number c.args.instances.now c.index-instances-index.result c.requires c.if-index-instances.true)

pub returns-else-index-instances : goal.returns-else-index-instances
returns-else-index-instances c = sym (out-none c.args.out c.args.number c.args.instances.now c.requires c.if-index-instances.false)
