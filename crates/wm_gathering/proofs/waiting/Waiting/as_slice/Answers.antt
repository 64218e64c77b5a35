use Rattle.std.proofs.Common.{subst}
use Rattle.wm_gathering.proofs.Merging.{different_numbers}
use Rattle.wm_keeper.specs.Keeper.{AreOfDifferentNumbers}
use Rattle.wm_gathering.proofs.waiting.Waiting.as_slice.Goals as goal

pub returns-clause-different : goal.returns-clause-different
returns-clause-different c =
    subst AreOfDifferentNumbers c.self.view_is (different_numbers c.self.inside.changes.entries c.self.invariant c.as_slice.ensures.unique)
