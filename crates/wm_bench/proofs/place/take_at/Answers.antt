use Rattle.std.proofs.Common.{sym}
use Rattle.wm_bench.proofs.Changes.{changed_at-past, idle_at-past, set-change}
use Rattle.wm_bench.specs.Places.{made_away}
use Rattle.wm_bench.proofs.place.take_at.Goals as goal

pub returns-then-number-places-clause-places : goal.returns-then-number-places-clause-places
returns-then-number-places-clause-places g c =
    rw c.take.ensures.place (set-change (made_away g.B.Worker.kind_of) c.args.number c.args.places.now c.index-places-number.result c.if-number-places.true)

pub returns-else-number-places-clause-worker : goal.returns-else-number-places-clause-worker
returns-else-number-places-clause-worker g c = sym (idle_at-past c.args.number c.args.places.now c.if-number-places.false)

pub returns-else-number-places-clause-places : goal.returns-else-number-places-clause-places
returns-else-number-places-clause-places g c = sym (changed_at-past (made_away g.B.Worker.kind_of) c.args.number c.args.places.now c.if-number-places.false)
