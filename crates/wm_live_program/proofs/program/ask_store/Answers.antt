use Rattle.std.proofs.Common.{ap}
use Rattle.wm_ended.specs.Tells.{tells_of}
use Rattle.wm_live_program.proofs.LiveEnds.{ended-loaded, unbegun-loaded}
use Rattle.wm_seating.specs.Hands.{instances_from}
use Rattle.wm_live_program.proofs.program.ask_store.Goals as goal

pub returns-in-Ok-clause-begun : goal.returns-in-Ok-clause-begun
returns-in-Ok-clause-begun g c =
    let tells = tells_of g.K.Keeper.store g.W.Sink.given g.W.Sink.faults g.B.Worker.kind_of g.B.Worker.diary_of in
    let loaded = c.in-Ok.loaded in
    let its = c.in-Ok.ensures.loaded in
    ended-loaded tells c.args.step c.args.asks.items c.args.hands.items c.args.store.now loaded.rows.items c.args.keeper loaded.keeper c.args.sink
    c.ask_loaded.result its.stored (rw (ap (λ v. v.items) its.hands_are, its.sink_is) at c.ask_loaded.ensures.begun)

pub returns-in-Ok-clause-not_begun : goal.returns-in-Ok-clause-not_begun
returns-in-Ok-clause-not_begun g c =
    let loaded = c.in-Ok.loaded in
    let its = c.in-Ok.ensures.loaded in
    let instances = instances_from g.B.Worker.kind_of 0 c.args.hands.items in
    unbegun-loaded g.K.Keeper.store instances c.args.hands.items c.args.store.now loaded.rows.items c.args.keeper loaded.keeper c.args.sink
    c.ask_loaded.result its.stored (rw (its.may_begin.instances, ap (λ v. v.items) its.hands_are, its.sink_is) at c.ask_loaded.ensures.not_begun)
