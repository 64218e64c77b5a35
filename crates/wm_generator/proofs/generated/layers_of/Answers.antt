-- The class of the second layer is one that a request may have.
use Rattle.wm_generator.proofs.GeneratedWorks.{built-class_of}
use Rattle.wm_generator.proofs.generated.layers_of.Goals as goal

pub with_work-requires : goal.with_work-requires
with_work-requires c = rw (c.class_of.ensures) (built-class_of c.id_of.result c.args.group)
