use Rattle.wm_leases.specs.Ends.{has_end}
use Rattle.wm_leases.proofs.leases.Leases.tell.Goals as goal

pub invariant_of-self : goal.invariant_of-self
invariant_of-self c = c.tell_term.ensures.kept (has_end c.self.inside.ends) c.self.invariant
