use Rattle.std.proofs.Common.{◌∙◌}
use Rattle.wm_live.proofs.Stands.{stopped-here}
use Rattle.wm_live.proofs.drive.drive.Goals as goal

pub returns-clause-driven : goal.returns-clause-driven
returns-clause-driven g c =
    rw c.put_back.ensures
    (stopped-here g.B.Worker.kind_of c.args.ticket _ _ c.args.stand.now c.requires.under_way (c.begin.ensures.number ∙ c.requires.number)
    (c.begin.ensures.kind ∙ c.requires.kind))
