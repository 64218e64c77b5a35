use Rattle.std.proofs.Common.{◌≡◌, map, None, IsSome, ap, refl, subst, sym, ◌∙◌, rules}
use Rattle.std.specs.Prelude.{string_bytes}
use Rattle.wm_beginning.proofs.Causes.{none_that, opened-caused, read-caused, usage-caused}
use Rattle.wm_beginning.proofs.ReportedRuns.{AreReportedOnce-nothing, AreReportedOnce-replayed}
use Rattle.wm_beginning.proofs.Unread.{IsTextWritten-nothing, ForScript-any, not_done, unopened-kept}
use Rattle.wm_beginning.specs.Caused.{IsCausedFor}
use Rattle.wm_beginning.specs.Reading.{reads_of}
use Rattle.wm_cli.proofs.OriginLines.{long_of_script, without_lines}
use Rattle.wm_cli.proofs.RunsUnopened.{IsRunOf-unopened}
use Rattle.wm_cli.specs.Ended.{IsRunOf}
use Rattle.wm_cli.specs.Lines.{HaveLines, lines_of}
use Rattle.wm_ended.specs.Tells.{tells_of}
use Rattle.wm_ended.specs.declared.status.Status.TheVariants.{Done, Usage}
use Rattle.wm_words.proofs.WordsLemmas.{no_threads, origin_read, script_asked}
use Rattle.wm_words.specs.Run.{options_of, origin_of, AskForScript}
use Rattle.wm_cli.proofs.program.run.Goals as goal

-- the words are wrong: nothing was read or opened
pub returns-in_default : goal.returns-in_default
returns-in_default g c =
    let tells = tells_of g.K.Keeper.store g.W.Sink.given g.W.Sink.faults g.B.Worker.kind_of g.B.Worker.diary_of in
    let words = map string_bytes c.args.words.now in
    let source = reads_of g.S.Source.left g.S.Source.faults in
    let options = options_of words in
    let at = c.before_begin.ensures in
    let ended = c.before_begin.result in
    let before = c.args.source.now in
    let has_lines = HaveLines words (source.left before) (source.faults before) (source.faults before) in
    let wrong : options ≡ None = search rules in
    let causes : IsCausedFor tells source options (AskForScript words) has_lines before before c.args.keeper ended.keeper c.args.sink ended.sink ended.status =
    rw (at.status_is, at.keeper_is, at.sink_is)
    (usage-caused tells source options (AskForScript words) has_lines before before c.args.keeper c.args.sink wrong (none_that _ options wrong) (none_that _ options wrong) refl) in
    record {
      replay = search rules;
      replay_left = search rules;
      keeps_telling = search rules;
      begun = search rules;
      at_opening = unopened-kept tells.store ended.began ended.at_opening ended.status _ _ c.args.keeper ended.keeper at.began at.opening at.keeper_is;
      not_begun_keeps = search rules;
      rows = search rules;
      store = search rules;
      script = ForScript-any (g.S.Source.left c.args.source.now) (λ bytes. IsRunOf tells words c.args.hands.items c.args.keeper (lines_of (origin_of words) bytes) ended)
          (λ bytes. IsRunOf-unopened tells words c.args.hands.items c.args.hands c.args.keeper c.args.sink bytes Usage ended c.before_begin.ensures
          (λ done. let clash : Usage ≡ Done = done in absurd (cc)));
      bytes = IsTextWritten-nothing (g.W.Sink.given c.args.sink) (g.W.Sink.given ended.sink) ended.status ended.first ended.log
          (ap g.W.Sink.given c.before_begin.ensures.sink_is) c.before_begin.ensures.log;
      end = search rules;
      reports = AreReportedOnce-nothing c.before_begin.result.first c.before_begin.result.log c.before_begin.result.last c.before_begin.ensures.log;
      hands = search rules;
      boxes = search rules;
      diaries = search rules;
      reads = search rules;
      generated_reads_nothing = search rules;
      done = search rules;
      usage = causes.usage;
      usage_reads_nothing = causes.usage_reads_nothing;
      usage_keeps = causes.usage_keeps;
      source_fault = causes.source_fault;
      source_fault_keeps = causes.source_fault_keeps;
      script_too_long = causes.script_too_long;
      script_too_long_of_script = search rules;
      script_too_long_keeps = causes.script_too_long_keeps;
      long_script = causes.long_script;
      keeper_fault = causes.keeper_fault;
      sink_fault = causes.sink_fault;
      bad_store = causes.bad_store;
      unsound_store = causes.unsound_store;
      completes = causes.completes;
    }

-- the lines weren't read: the run ended before its store was opened
pub returns-in-Err : goal.returns-in-Err
returns-in-Err g c =
    let tells = tells_of g.K.Keeper.store g.W.Sink.given g.W.Sink.faults g.B.Worker.kind_of g.B.Worker.diary_of in
    let words = map string_bytes c.args.words.now in
    let source = reads_of g.S.Source.left g.S.Source.faults in
    let options = options_of words in
    let at = c.before_begin-in-Err.ensures in
    let ended = c.before_begin-in-Err.result in
    let before = c.args.source.now in
    let now = c.lines_of.new.source in
    let has_lines = HaveLines words (source.left before) (source.faults before) (source.faults now) in
    let right : IsSome options = subst IsSome c.in-Some.ensures.asked refl in
    let causes : IsCausedFor tells source options (AskForScript words) has_lines before now c.args.keeper ended.keeper c.args.sink ended.sink ended.status =
    rw (at.status_is, at.keeper_is, at.sink_is)
    (read-caused tells source options (AskForScript words) has_lines before now c.args.keeper c.args.sink c.in-Err.status right c.in-Err.ensures.status
    (λ lines. without_lines words c.in-Some.options c.in-Err.status (source.left before) (source.faults before) (source.faults now) c.in-Some.ensures.asked
    lines c.in-Err.ensures.status c.in-Err.ensures.generated_status)) in
    record {
      replay = search rules;
      replay_left = search rules;
      keeps_telling = search rules;
      begun = search rules;
      at_opening = unopened-kept tells.store ended.began ended.at_opening ended.status _ _ c.args.keeper ended.keeper at.began at.opening at.keeper_is;
      not_begun_keeps = search rules;
      rows = search rules;
      store = search rules;
      script = ForScript-any (g.S.Source.left c.args.source.now) (λ bytes. IsRunOf tells words c.args.hands.items c.args.keeper (lines_of (origin_of words) bytes) ended)
          (λ bytes. IsRunOf-unopened tells words c.args.hands.items c.args.hands c.args.keeper c.args.sink bytes c.in-Err.status ended
          c.before_begin-in-Err.ensures (not_done c.in-Err.status _ _ _ c.in-Err.ensures.status));
      bytes = IsTextWritten-nothing (g.W.Sink.given c.args.sink) (g.W.Sink.given ended.sink) ended.status ended.first ended.log
          (ap g.W.Sink.given c.before_begin-in-Err.ensures.sink_is) c.before_begin-in-Err.ensures.log;
      end = search rules;
      reports = AreReportedOnce-nothing ended.first ended.log ended.last c.before_begin-in-Err.ensures.log;
      hands = search rules;
      boxes = search rules;
      diaries = search rules;
      reads = search rules;
      generated_reads_nothing = λ seed is.
          let origin = origin_read words c.in-Some.options c.in-Some.ensures.asked in
          c.lines_of.ensures.generated seed (sym origin ∙ is);
      done = search rules;
      usage = causes.usage;
      usage_reads_nothing = causes.usage_reads_nothing;
      usage_keeps = causes.usage_keeps;
      source_fault = causes.source_fault;
      source_fault_keeps = causes.source_fault_keeps;
      script_too_long = causes.script_too_long;
      script_too_long_of_script = λ limit is.
          long_of_script words c.in-Some.options c.in-Err.status limit c.in-Some.ensures.asked
          c.in-Err.ensures.generated_status (sym c.before_begin-in-Err.ensures.status_is ∙ is);
      script_too_long_keeps = causes.script_too_long_keeps;
      long_script = causes.long_script;
      keeper_fault = causes.keeper_fault;
      sink_fault = causes.sink_fault;
      bad_store = causes.bad_store;
      unsound_store = causes.unsound_store;
      completes = causes.completes;
    }

-- the lines are there: it is the run of them
pub returns-in-Ok : goal.returns-in-Ok
returns-in-Ok g c =
    let tells = tells_of g.K.Keeper.store g.W.Sink.given g.W.Sink.faults g.B.Worker.kind_of g.B.Worker.diary_of in
    let words = map string_bytes c.args.words.now in
    let source = reads_of g.S.Source.left g.S.Source.faults in
    let options = options_of words in
    let ended = c.run_commands.result in
    let its = c.run_commands.ensures.over in
    let before = c.args.source.now in
    let now = c.lines_of.new.source in
    let has_lines = HaveLines words (source.left before) (source.faults before) (source.faults now) in
    let right : IsSome options = subst IsSome c.in-Some.ensures.asked refl in
    let causes =
    opened-caused tells source options (AskForScript words) has_lines before now c.args.keeper c.args.sink ended.keeper ended.sink ended.status right
    (λ asks. c.in-Ok.ensures.within (script_asked words c.in-Some.options c.in-Some.ensures.asked asks)) its.causes in
    record {
      replay = its.replay;
      replay_left = its.replay_left;
      keeps_telling = its.goes_on.keeps;
      begun = its.begun;
      at_opening = its.at_opening;
      not_begun_keeps = its.not_begun_keeps;
      rows = its.rows;
      store = search rules;
      script = let run = c.run_commands.ensures in
          let read = c.in-Ok.ensures.lines in
          let origin = origin_read words c.in-Some.options c.in-Some.ensures.asked in
          let lines = read.holds ∙ ap (λ from. lines_of from read.bytes) (sym origin) in
          record {
            bytes = read.bytes;
            told = read.told;
            holds = subst (λ commands. IsRunOf tells words c.args.hands.items c.args.keeper commands ended) lines (record {
              commands = run.has_commands;
              serial = λ alone. run.serial (no_threads words c.in-Some.options c.in-Some.ensures.asked alone);
              crash = λ settled. run.images settled;
            });
          };
      bytes = its.bytes;
      end = its.end;
      reports = AreReportedOnce-replayed _ _ ended.began ended.first ended.log ended.last c.run_commands.ensures.over.replay;
      hands = its.hands_back;
      boxes = λ alone. c.run_commands.ensures.boxes (no_threads words c.in-Some.options c.in-Some.ensures.asked alone);
      diaries = λ alone. c.run_commands.ensures.diaries (no_threads words c.in-Some.options c.in-Some.ensures.asked alone);
      reads = search rules;
      generated_reads_nothing = λ seed is.
          let origin = origin_read words c.in-Some.options c.in-Some.ensures.asked in
          c.lines_of.ensures.generated seed (sym origin ∙ is);
      done = search rules;
      usage = causes.usage;
      usage_reads_nothing = causes.usage_reads_nothing;
      usage_keeps = causes.usage_keeps;
      source_fault = causes.source_fault;
      source_fault_keeps = causes.source_fault_keeps;
      script_too_long = causes.script_too_long;
      script_too_long_of_script = search rules;
      script_too_long_keeps = causes.script_too_long_keeps;
      long_script = causes.long_script;
      keeper_fault = causes.keeper_fault;
      sink_fault = causes.sink_fault;
      bad_store = causes.bad_store;
      unsound_store = causes.unsound_store;
      completes = causes.completes;
    }
