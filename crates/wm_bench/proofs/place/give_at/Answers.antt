use Rattle.wm_bench.proofs.Changes.{set-change}
use Rattle.wm_bench.specs.Places.{made_back}
use Rattle.wm_bench.proofs.place.give_at.Goals as goal

pub returns : goal.returns
returns g c =
    rw c.give.ensures
    (set-change (made_back g.B.Worker.kind_of c.args.worker) c.args.number c.args.places.now c.index-places-number.result c.requires)
