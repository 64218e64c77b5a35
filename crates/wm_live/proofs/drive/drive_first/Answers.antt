use Rattle.wm_live.proofs.DrainSteps.{stopped-then}
use Rattle.wm_live.proofs.Stands.{advanced-run}
use Rattle.wm_live.proofs.drive.drive_first.Goals as goal

pub returns-in-Ok-clause-advanced : goal.returns-in-Ok-clause-advanced
returns-in-Ok-clause-advanced g c =
    advanced-run g.B.Worker.kind_of c.in-Run.ticket c.in-Run.seat c.args.stand.now c.claim.new.self c.drive.new.stand c.in-Run.ensures.claimed
    c.in-Ok.ensures.driven

pub returns-in-Err-clause-advanced : goal.returns-in-Err-clause-advanced
returns-in-Err-clause-advanced g c =
    stopped-then g.B.Worker.kind_of c.in-Err.trouble c.args.stand.now c.claim.new.self c.drive.new.stand c.in-Run.ensures.claimed.drained c.in-Err.ensures.driven
