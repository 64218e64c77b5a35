use Rattle.wm_live.proofs.Lives.{is_answered, is_interrupted}
use Rattle.wm_live.proofs.live.Live.execute.Goals as goal

pub returns-in-Ok-clause-ok : goal.returns-in-Ok-clause-ok
returns-in-Ok-clause-ok g c =
    rw (← c.self.view_is)
    (is_answered g.B.Worker.kind_of c.args.line c.args.command c.in-Ok.reply c.self.inside.stand c.execute_and_drain.new.stand c.in-Ok.ensures.ok)

pub returns-in-Err-clause-err : goal.returns-in-Err-clause-err
returns-in-Err-clause-err g c =
    let kept = c.self.invariant in
    rw (← c.self.view_is)
    (is_interrupted g.K.Keeper.store c.args.line c.args.command c.in-Err.trouble c.self.inside.stand c.execute_and_drain.new.stand c.end.result
    kept.0.idle.valid kept.1 (rw (← c.self.view_is) at c.requires) c.in-Err.ensures.err c.end.ensures.end c.end.ensures.valid)
