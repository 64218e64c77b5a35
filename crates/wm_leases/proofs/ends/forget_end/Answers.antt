use Rattle.wm_leases.proofs.Moves.{end-forgotten}
use Rattle.wm_leases.proofs.ends.forget_end.Goals as goal

pub returns-in-Some : goal.returns-in-Some
returns-in-Some c = rw c.in-Some.is (end-forgotten c.args.run c.in-Some.end c.args.ends.now c.remove.new.self c.remove.ensures.updates)
