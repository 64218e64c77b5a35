use Rattle.std.proofs.Common.{map, subst, sym, ◌∙◌, ap}
use Rattle.wm_bench.proofs.Changes.{IsAwayAt-retired}
use Rattle.wm_bench.specs.Places.{retired_at, IsAwayAt}
use Rattle.wm_collections.proofs.Lists.{changed-whole}
use Rattle.wm_bench.proofs.bench.Bench.retire.Goals as goal

pub returns-clause-away : goal.returns-clause-away
returns-clause-away g c =
    let seen = c.deref_mut in
    let change = retired_at g.B.Worker.kind_of c.args.class.now in
    let places = c.self.inside.places in
    let whole =
    changed-whole change places.items seen.result.now c.retire_each.new.places places.len seen.ensures.value seen.ensures.len c.retire_each.ensures.places in
    λ number kind away. subst (IsAwayAt number kind) (sym (whole ∙ ap (map change) c.self.view_is))
    (IsAwayAt-retired g.B.Worker.kind_of c.args.class.now number kind c.args.self.now away)
