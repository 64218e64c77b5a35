use Rattle.std.proofs.Common.{◌≡◌, [], ◌∷◌, ◌++◌, arith, rules}
use Rattle.command_tests.proofs.Numbered.{one_more}
use Rattle.command_tests.proofs.checks.records.Goals as goal

pub loop-index-preserved : goal.loop-index-preserved
loop-index-preserved c =
    let before = c.loop-index in
    let work = c.in_ok-numbered.field-0 in
    let pushed : c.push.new.self ≡ before.works ++ work ∷ [] = search rules in
    rw pushed (one_more before.index before.works work (omega arith) (search rules) before.invariant)
