-- One group more.
use Rattle.std.proofs.Common.{◌∙◌}
use Rattle.wm_generator.proofs.GeneratedWorks.{drawn_on-six, groups_of-more}
use Rattle.wm_generator.proofs.generated.add_groups.Goals as goal

pub loop-group-preserved : goal.loop-group-preserved
loop-group-preserved c =
    let loop = c.loop-group in
    record {
      commands =
          groups_of-more c.args.commands.now.items loop.commands.items _ c.args.seed loop.group loop.draws.number c.in_ok-group_of.field-0
          loop.invariant.commands loop.invariant.drawn c.in_ok-group_of.ensures.command c.in_ok-push.ensures.items;
      drawn = c.in_ok-group_of.ensures.drawn ∙ drawn_on-six c.args.seed loop.draws.number loop.group loop.invariant.drawn;
    }
