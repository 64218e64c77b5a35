use Rattle.wm_gathering.proofs.Gathered.{ascending-gathered}
use Rattle.wm_gathering.proofs.gathering.GatheringKeeper.load.Goals as goal

pub returns-then-not-is_empty-clause-ascending : goal.returns-then-not-is_empty-clause-ascending
returns-then-not-is_empty-clause-ascending g c = rw (← c.self.view_is) (ascending-gathered c.self.inside.waiting _ c.self.invariant)
