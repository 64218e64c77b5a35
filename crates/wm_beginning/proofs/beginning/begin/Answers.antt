use Rattle.std.proofs.Common.{◌≡◌, Some, IfErr, IfOk, ◌∙◌, ap, map, subst, rules}
use Rattle.wm_beginning.specs.Begun.{HasBegun}
use Rattle.wm_beginning.specs.NotBegun.{IsNotBegun}
use Rattle.wm_bench.specs.Places.{idle_hands, place_of}
use Rattle.wm_seating.proofs.Hands.{idle_hands-places}
use Rattle.wm_beginning.proofs.beginning.begin.Goals as goal

-- the bench is made of the workers
pub begin_beside-requires-clause-benched : goal.begin_beside-requires-clause-benched
begin_beside-requires-clause-benched g c = record {
  hands = c.args.loaded.hands.items;
  few = search rules;
  at_places = c.in-Ok.ensures.places;
  are = c.requires.may.instances;
}

pub returns-in-Ok-clause-begun : goal.returns-in-Ok-clause-begun
returns-in-Ok-clause-begun g c =
    let hands = c.args.loaded.hands.items in
    let are : idle_hands c.in-Ok.bench ≡ hands = ap idle_hands {y = map place_of hands} c.in-Ok.ensures.places ∙ idle_hands-places hands in
    subst
    (λ workers. IfOk c.begin_beside.result
    (λ begun. HasBegun g.K.Keeper.store g.B.Worker.kind_of g.M.Mark.inputs workers c.args.loaded.sink begun.table begun.bench begun.sink)) are
    c.begin_beside.ensures.begun

pub returns-in-Ok-clause-not_begun : goal.returns-in-Ok-clause-not_begun
returns-in-Ok-clause-not_begun g c =
    let loaded = c.args.loaded in
    let hands = loaded.hands.items in
    let are : idle_hands c.in-Ok.bench ≡ hands = ap idle_hands {y = map place_of hands} c.in-Ok.ensures.places ∙ idle_hands-places hands in
    subst (λ back. IfErr c.begin_beside.result (IsNotBegun g.K.Keeper.store loaded.instances back (Some loaded.rows.items) loaded.keeper loaded.sink)) are
    c.begin_beside.ensures.not_begun
