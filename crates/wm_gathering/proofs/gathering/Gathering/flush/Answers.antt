use Rattle.wm_gathering.proofs.Gathered.{ascending-committed}
use Rattle.wm_gathering.proofs.gathering.Gathering.flush.Goals as goal

pub invariant_of-self-2 : goal.invariant_of-self-2
invariant_of-self-2 g c = ascending-committed c.as_slice.result.now _ _ c.self.invariant c.in_ok-commit.ensures.ok.rows
