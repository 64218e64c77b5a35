use Rattle.wm_live.proofs.Lives.{is_in_trouble}
use Rattle.wm_live.proofs.live.Live.open.Goals as goal

pub returns-in-Err-clause-err : goal.returns-in-Err-clause-err
returns-in-Err-clause-err g c =
    is_in_trouble g.B.Worker.kind_of c.args.table c.args.bench c.drain.new.stand c.requires.log g.K.Keeper.store c.in-Err.trouble c.end.result
    (rw c.new.ensures.items at c.in-Err.ensures.drained) c.end.ensures.end c.end.ensures.valid
