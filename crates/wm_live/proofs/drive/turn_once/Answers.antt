use Rattle.std.proofs.Common.{◌∙◌}
use Rattle.wm_live.proofs.Stands.{stopped-here}
use Rattle.wm_live.proofs.drive.turn_once.Goals as goal

pub returns-in-Err-clause-turned : goal.returns-in-Err-clause-turned
returns-in-Err-clause-turned g c =
    rw c.put_back.ensures
    (stopped-here g.B.Worker.kind_of c.args.ticket _ _ c.args.stand.now c.requires.under_way (c.turn.ensures.number ∙ c.requires.number)
    (c.turn.ensures.kind ∙ c.requires.kind))
