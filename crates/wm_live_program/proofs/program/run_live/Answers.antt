use Rattle.std.proofs.Common.{◌≡◌, None, map, IsSome, refl, subst, rules}
use Rattle.std.specs.Prelude.{string_bytes}
use Rattle.wm_beginning.proofs.Nothing.{nothing-read, nothing-usage}
use Rattle.wm_beginning.specs.Reading.{reads_of}
use Rattle.wm_ended.specs.Tells.{tells_of}
use Rattle.wm_live_program.proofs.LiveRuns.{live-asked, live-nothing}
use Rattle.wm_words.specs.Live.{live_options_of}
use Rattle.wm_live_program.proofs.program.run_live.Goals as goal

-- the words are wrong: nothing was read or opened
pub returns-in_default : goal.returns-in_default
returns-in_default g c =
    let tells = tells_of g.K.Keeper.store g.W.Sink.given g.W.Sink.faults g.B.Worker.kind_of g.B.Worker.diary_of in
    let source = reads_of g.S.Source.left g.S.Source.faults in
    let words = map string_bytes c.args.words.now in
    let before = c.args.source.now in
    let wrong : live_options_of words ≡ None = search rules in
    rw c.before_opening.ensures
    (live-nothing tells source words c.args.hands.items before before c.args.keeper c.args.sink _
    (nothing-usage tells source (live_options_of words) before c.args.keeper c.args.sink c.args.hands wrong))

-- the script wasn't read: nothing was opened
pub returns-in-Err : goal.returns-in-Err
returns-in-Err g c =
    let tells = tells_of g.K.Keeper.store g.W.Sink.given g.W.Sink.faults g.B.Worker.kind_of g.B.Worker.diary_of in
    let source = reads_of g.S.Source.left g.S.Source.faults in
    let words = map string_bytes c.args.words.now in
    let before = c.args.source.now in
    let now = c.asks_of.new.source in
    rw c.before_opening-in-Err.ensures
    (live-nothing tells source words c.args.hands.items before now c.args.keeper c.args.sink _
    (nothing-read tells source (live_options_of words) before c.args.keeper c.args.sink now c.in-Err.status c.args.hands
    (subst IsSome c.in-Some.ensures refl) c.in-Err.ensures.status c.asks_of.ensures.reads))

-- the asks are there: it is the driver that is asked them
pub returns-in-Ok : goal.returns-in-Ok
returns-in-Ok g c =
    let tells = tells_of g.K.Keeper.store g.W.Sink.given g.W.Sink.faults g.B.Worker.kind_of g.B.Worker.diary_of in
    let source = reads_of g.S.Source.left g.S.Source.faults in
    let words = map string_bytes c.args.words.now in
    live-asked tells source words c.args.hands.items c.args.source.now c.asks_of.new.source c.args.keeper c.args.sink c.in-Some.options c.in-Ok.asks.items
    c.ask_store.result c.in-Some.ensures c.in-Ok.ensures.asks c.asks_of.ensures.reads c.ask_store.ensures.begun c.ask_store.ensures.not_begun
