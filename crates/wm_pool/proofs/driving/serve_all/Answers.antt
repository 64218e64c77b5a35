use Rattle.std.proofs.Common.{rules}
use Rattle.wm_pool.proofs.Portions.{map-each}
use Rattle.wm_pool.proofs.driving.serve_all.Goals as goal

-- each call left the portion of its share as it was
pub returns-clause-portions : goal.returns-clause-portions
returns-clause-portions g c =
    map-each g.S.Shared.portion _ _ (search rules) (λ k d below. let served = (c.for_each_mut.ensures k d below).1 in cc)
