use Rattle.std.proofs.Common.{ap}
use Rattle.wm_callers_program.proofs.CallRuns.{called-loaded, uncalled-loaded}
use Rattle.wm_callers_program.specs.Lines.{lines_of}
use Rattle.wm_ended.specs.Tells.{tells_of}
use Rattle.wm_seating.specs.Hands.{instances_from}
use Rattle.wm_callers_program.proofs.top.call_commands.Goals as goal

pub returns-in-Ok-clause-called : goal.returns-in-Ok-clause-called
returns-in-Ok-clause-called g c =
    let tells = tells_of g.K.Keeper.store g.W.Sink.given g.W.Sink.faults g.B.Worker.kind_of g.B.Worker.diary_of in
    let loaded = c.in-Ok.loaded in
    let its = c.in-Ok.ensures.loaded in
    called-loaded tells c.args.crew.now.callers (lines_of c.args.commands) c.args.hands.items c.args.store.now loaded.rows.items c.args.keeper loaded.keeper
    c.args.sink c.call_loaded.result its.stored (rw (ap (λ v. v.items) its.hands_are, its.sink_is) at c.call_loaded.ensures.called)

pub returns-in-Ok-clause-not_begun : goal.returns-in-Ok-clause-not_begun
returns-in-Ok-clause-not_begun g c =
    let loaded = c.in-Ok.loaded in
    let its = c.in-Ok.ensures.loaded in
    let instances = instances_from g.B.Worker.kind_of 0 c.args.hands.items in
    uncalled-loaded g.K.Keeper.store instances c.args.hands.items c.args.store.now loaded.rows.items c.args.keeper loaded.keeper c.args.sink
    c.call_loaded.result its.stored (rw (its.may_begin.instances, ap (λ v. v.items) its.hands_are, its.sink_is) at c.call_loaded.ensures.not_begun)
