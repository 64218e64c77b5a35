use Rattle.wm_leases.proofs.Moves.{end-kept}
use Rattle.wm_leases.proofs.ends.keep_end.Goals as goal

pub returns-in_ok-insert-clause-ok : goal.returns-in_ok-insert-clause-ok
returns-in_ok-insert-clause-ok c =
    rw c.in-Some.is (end-kept c.args.run c.in-Some.end c.args.ends.now c.insert.new.self c.in_ok-insert.ensures.updates)
