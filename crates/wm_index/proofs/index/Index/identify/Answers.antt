use Rattle.wm_index.specs.Groups.{has}
use Rattle.wm_index.proofs.index.Index.identify.Goals as goal

pub invariant_of-self : goal.invariant_of-self
invariant_of-self c = c.identify_work.ensures.kept (has c.self.inside.names) (has c.self.inside.tags) c.self.invariant
