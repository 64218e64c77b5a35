use Rattle.std.proofs.Common.{Some, ap, rules}
use Rattle.wm_beginning.proofs.Unbegun.{not_begun-loaded}
use Rattle.wm_cli.proofs.RunEnds.{IsRunEnd-loaded, IsRunEnd-unbegun}
use Rattle.wm_ended.specs.Tells.{tells_of}
use Rattle.wm_seating.specs.Hands.{instances_from}
use Rattle.wm_cli.proofs.program.run_commands.Goals as goal

-- the store wasn't loaded
pub returns-in-Err : goal.returns-in-Err
returns-in-Err g c =
    let tells = tells_of g.K.Keeper.store g.W.Sink.given g.W.Sink.faults g.B.Worker.kind_of g.B.Worker.diary_of in
    IsRunEnd-unbegun tells c.args.crew.now.workers c.args.commands c.args.hands.items (Some c.args.store.now) c.args.keeper c.args.sink c.in-Err.back
    c.unbegun.result c.unbegun.ensures c.in-Err.ensures.not_begun c.requires.askable

-- the rows were opened, and the commands executed
pub returns-in-Ok-run_loaded : goal.returns-in-Ok-run_loaded
returns-in-Ok-run_loaded g c =
    let tells = tells_of g.K.Keeper.store g.W.Sink.given g.W.Sink.faults g.B.Worker.kind_of g.B.Worker.diary_of in
    let loaded = c.in-Ok.loaded in
    let its = c.in-Ok.ensures.loaded in
    let ended = c.in-Ok-run_loaded.ended in
    IsRunEnd-loaded tells c.args.crew.now.workers c.args.commands c.args.hands.items c.args.store.now loaded.rows.items c.args.keeper loaded.keeper
    c.args.sink ended c.in-Ok-run_loaded.ensures.began
    (rw (ap (λ v. v.items) its.hands_are, its.sink_is) at c.in-Ok-run_loaded.ensures.begun) its.stored

-- they weren't
pub returns-in-Err-run_loaded : goal.returns-in-Err-run_loaded
returns-in-Err-run_loaded g c =
    let tells = tells_of g.K.Keeper.store g.W.Sink.given g.W.Sink.faults g.B.Worker.kind_of g.B.Worker.diary_of in
    let loaded = c.in-Ok.loaded in
    let its = c.in-Ok.ensures.loaded in
    let instances = instances_from tells.kind_of 0 c.args.hands.items in
    let back = c.in-Err-run_loaded.back in
    IsRunEnd-unbegun tells c.args.crew.now.workers c.args.commands c.args.hands.items (Some c.args.store.now) c.args.keeper c.args.sink back
    c.unbegun-in-Err-run_loaded.result c.unbegun-in-Err-run_loaded.ensures
    (not_begun-loaded tells.store instances c.args.hands.items c.args.store.now loaded.rows.items c.args.keeper loaded.keeper c.args.sink back its.stored
    (rw (its.may_begin.instances, ap (λ v. v.items) its.hands_are, its.sink_is) at c.in-Err-run_loaded.ensures.not_begun))
    c.requires.askable
