use Rattle.wm_index.specs.Groups.{has, ids_of}
use Rattle.wm_index.proofs.index.Index.add_tags.Goals as goal

pub invariant_of-self : goal.invariant_of-self
invariant_of-self c = c.tag_work.ensures.kept (ids_of c.self.inside.ids) (has c.self.inside.names) c.self.invariant
