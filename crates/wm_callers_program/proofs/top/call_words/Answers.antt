use Rattle.std.proofs.Common.{◌≡◌, None, map, IsSome, refl, subst, rules}
use Rattle.std.specs.Prelude.{string_bytes}
use Rattle.wm_beginning.proofs.Nothing.{nothing-read, nothing-usage}
use Rattle.wm_beginning.specs.Reading.{reads_of}
use Rattle.wm_callers_program.proofs.CallRuns.{run-called, run-uncalled}
use Rattle.wm_ended.specs.Tells.{tells_of}
use Rattle.wm_words.specs.Callers.{callers_options_of}
use Rattle.wm_callers_program.proofs.top.call_words.Goals as goal

-- the words are wrong: nothing was read or opened
pub returns-in_default-clause-not_begun : goal.returns-in_default-clause-not_begun
returns-in_default-clause-not_begun g c =
    let tells = tells_of g.K.Keeper.store g.W.Sink.given g.W.Sink.faults g.B.Worker.kind_of g.B.Worker.diary_of in
    let source = reads_of g.S.Source.left g.S.Source.faults in
    let options = callers_options_of (map string_bytes c.args.words.now) in
    let wrong : options ≡ None = search rules in
    rw c.before_opening.ensures (nothing-usage tells source options c.args.source.now c.args.keeper c.args.sink c.args.hands wrong)

-- the script wasn't read: nothing was opened
pub returns-in-Err-clause-not_begun : goal.returns-in-Err-clause-not_begun
returns-in-Err-clause-not_begun g c =
    let tells = tells_of g.K.Keeper.store g.W.Sink.given g.W.Sink.faults g.B.Worker.kind_of g.B.Worker.diary_of in
    let source = reads_of g.S.Source.left g.S.Source.faults in
    let options = callers_options_of (map string_bytes c.args.words.now) in
    rw c.before_opening-in-Err.ensures
    (nothing-read tells source options c.args.source.now c.args.keeper c.args.sink c.read_commands.new.source c.in-Err.status c.args.hands
    (subst IsSome c.in-Some.ensures.asked refl) c.in-Err.ensures.status c.read_commands.ensures.reads)

-- the commands are there: it is what came of them
pub returns-in-Ok-clause-called : goal.returns-in-Ok-clause-called
returns-in-Ok-clause-called g c =
    let tells = tells_of g.K.Keeper.store g.W.Sink.given g.W.Sink.faults g.B.Worker.kind_of g.B.Worker.diary_of in
    let source = reads_of g.S.Source.left g.S.Source.faults in
    run-called tells source (map string_bytes c.args.words.now) c.args.hands.items c.args.source.now c.read_commands.new.source c.args.keeper c.args.sink
    c.in-Some.options c.in-Ok.commands c.call_commands.result c.in-Some.ensures.asked c.in-Ok.ensures.commands c.read_commands.ensures.reads
    c.call_commands.ensures.called

pub returns-in-Ok-clause-not_begun : goal.returns-in-Ok-clause-not_begun
returns-in-Ok-clause-not_begun g c =
    let tells = tells_of g.K.Keeper.store g.W.Sink.given g.W.Sink.faults g.B.Worker.kind_of g.B.Worker.diary_of in
    let source = reads_of g.S.Source.left g.S.Source.faults in
    run-uncalled tells source (map string_bytes c.args.words.now) c.args.hands.items c.args.source.now c.read_commands.new.source c.args.keeper c.args.sink
    c.in-Ok.commands c.call_commands.result (subst IsSome c.in-Some.ensures.asked refl) c.in-Ok.ensures.commands c.read_commands.ensures.reads
    c.call_commands.ensures.not_begun
