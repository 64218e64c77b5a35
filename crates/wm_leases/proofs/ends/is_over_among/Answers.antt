use Rattle.std.proofs.lemmas.Bool.{leb-false}
use Rattle.wm_leases.proofs.Moves.{none-over}
use Rattle.wm_leases.proofs.ends.is_over_among.Goals as goal

pub returns-in-Some : goal.returns-in-Some
returns-in-Some c = λ late over.
    none-over c.args.ends.now c.in-Some.end.now c.args.moment c.in-Some.ensures.least (leb-false c.in-Some.end.now.0 c.args.moment late) over.0 over.1
