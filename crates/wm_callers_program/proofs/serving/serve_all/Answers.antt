use Rattle.std.proofs.Common.{rules}
use Rattle.wm_callers_program.proofs.Servings.{served-each}
use Rattle.wm_callers_program.proofs.serving.serve_all.Goals as goal

pub returns : goal.returns
returns g c = served-each _ _ (search rules) (λ k d below. let served = (c.for_each_mut.ensures k d below).1 in search rules)
