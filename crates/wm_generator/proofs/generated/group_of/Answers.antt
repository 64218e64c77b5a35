-- The works of a group have no fault.
use Rattle.wm_generator.proofs.GeneratedWorks.{faultless}
use Rattle.wm_generator.specs.Generated.{works_of}
use Rattle.wm_generator.proofs.generated.group_of.Goals as goal

pub batch_of-requires : goal.batch_of-requires
unfolding works_of
batch_of-requires c =
    rw (c.in_ok-chain.ensures.chain) (faultless c.args.seed c.args.group c.args.draws.now.number c.ranges.seed.fits c.ranges.group.fits)
