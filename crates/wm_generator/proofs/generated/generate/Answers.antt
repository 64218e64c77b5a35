-- What follows of the commands.
use Rattle.std.proofs.Common.{◌≡◌, rules, arith}
use Rattle.wm_generator.proofs.GeneratedWorks.{AreAskable-generated, length-generated}
use Rattle.wm_generator.specs.Generated.{generated}
use Rattle.wm_generator.proofs.generated.generate.Goals as goal

pub returns-clause-askable : goal.returns-clause-askable
unfolding generated
returns-clause-askable c =
    let is : c.from_vec.result ≡ generated c.args.seed c.args.groups = search rules in
    rw is (AreAskable-generated c.args.seed c.args.groups c.ranges.seed.fits (omega (arith, c.requires.few)))

pub returns-clause-few : goal.returns-clause-few
unfolding generated
returns-clause-few c =
    let is : c.from_vec.result ≡ generated c.args.seed c.args.groups = search rules in
    let many = length-generated c.args.seed c.args.groups in
    rw is (omega (arith, c.requires.few, many))
