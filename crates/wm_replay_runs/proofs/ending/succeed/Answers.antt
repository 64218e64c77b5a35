use Rattle.std.proofs.Common.{sym, subst}
use Rattle.wm_collections.specs.Lists.{AllLater}
use Rattle.wm_machine.specs.Valid.{IsBefore}
use Rattle.wm_replay_runs.proofs.Closings.{in_order-succeeded}
use Rattle.wm_replay_runs.proofs.ending.succeed.Goals as goal

pub free_after-requires : goal.free_after-requires
free_after-requires c =
    subst (AllLater IsBefore) (sym c.in_ok-change_work.ensures) (in_order-succeeded c.args.now c.args.output.now c.args.seq c.args.works.now c.requires)
