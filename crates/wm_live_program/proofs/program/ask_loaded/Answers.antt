use Rattle.std.proofs.Common.{ap}
use Rattle.wm_ended.specs.Tells.{tells_of}
use Rattle.wm_live_program.proofs.LiveEnds.{live-begun}
use Rattle.wm_live_program.proofs.program.ask_loaded.Goals as goal

pub returns-in-Ok-clause-begun : goal.returns-in-Ok-clause-begun
returns-in-Ok-clause-begun g c =
    let tells = tells_of g.K.Keeper.store g.W.Sink.given g.W.Sink.faults g.B.Worker.kind_of g.B.Worker.diary_of in
    let loaded = c.args.loaded in
    let begun = c.in-Ok.ensures.begun in
    let table = c.in-Ok.begun.table in
    let ended = c.write_text.result in
    let driven = rw (← c.write_text.ensures.end) at c.drive.ensures in
    let bytes = rw (← c.write_text.ensures.end, begun.sink_is) at c.write_text.ensures.bytes in
    let all_asked = rw (← c.write_text.ensures.end) at c.write_text.ensures.done in
    let met = rw (← c.write_text.ensures.end) at c.write_text.ensures.keeper_fault in
    live-begun tells g.M.Mark.inputs c.args.step c.args.asks.items loaded.hands.items loaded.rows.items loaded.instances loaded.roll.table_id loaded.keeper
    table.keeper loaded.sink ended c.requires.given c.requires.may.instances begun.begun.sound begun.begun.no_fault driven.driven driven.cause driven.rows
    driven.given c.write_text.ensures.status bytes all_asked met (rw begun.sink_is at c.write_text.ensures.sink_fault)
