use Rattle.std.proofs.Common.{◌≡◌, ◌∙◌, ◌+◌, [], ◌∷◌, ◌++◌, drop, sym, ap, append_assoc}
use Rattle.std.proofs.lemmas.List.{drop_more}
use Rattle.wm_callers_program.proofs.LogWrites.{part-then, plain-more}
use Rattle.wm_callers_program.specs.LogTexts.{plain_text}
use Rattle.wm_io.proofs.AppendedTexts.{IsAppended-append}
use Rattle.wm_texts.specs.Texts.{text_of}
use Rattle.wm_callers_program.proofs.texts.write_log.Goals as goal

pub loop-event-preserved : goal.loop-event-preserved
loop-event-preserved g c =
    let kept = c.loop-event.invariant in
    let log = c.args.log.now in
    let index = c.loop-event.event-index in
    let e = c.event-item.result in
    let next = c.is_hushed_after-is_hushed.result in
    let given = g.W.Sink.given in
    let more : drop index log ≡ e ∷ drop (index + 1) log = drop_more log index e c.loop-event-test.true ∙ ap (λ x. x ∷ drop (index + 1) log) (sym c.event-item.is) in
    record {
      written = kept.written ++ text_of e [] next;
      given = IsAppended-append (given c.args.sink.now) (given c.loop-event.sink) (given c.write_event.new.sink) kept.written (text_of e [] next) kept.given
          c.in_ok-write_event.ensures.all;
      all = append_assoc kept.written (text_of e [] next) (plain_text next (drop (index + 1) log))
          ∙ plain-more c.loop-event.is_hushed next log index e kept.written (plain_text c.args.hushed log) c.is_hushed_after-is_hushed.ensures more kept.all;
      faults = c.in_ok-write_event.ensures.cause ∙ kept.faults;
    }

pub returns-in_err-write_event-clause-front : goal.returns-in_err-write_event-clause-front
returns-in_err-write_event-clause-front g c =
    let kept = c.loop-event.invariant in
    let log = c.args.log.now in
    let index = c.loop-event.event-index in
    let e = c.event-item.result in
    let next = c.is_hushed_after-is_hushed.result in
    let given = g.W.Sink.given in
    let more : drop index log ≡ e ∷ drop (index + 1) log = drop_more log index e c.loop-event-test.true ∙ ap (λ x. x ∷ drop (index + 1) log) (sym c.event-item.is) in
    part-then (given c.args.sink.now) (given c.loop-event.sink) (given c.write_event.new.sink) kept.written (text_of e [] next) (plain_text next (drop (index + 1) log))
    (plain_text c.args.hushed log) kept.given c.in_err-write_event.ensures.front
    (plain-more c.loop-event.is_hushed next log index e kept.written (plain_text c.args.hushed log) c.is_hushed_after-is_hushed.ensures more kept.all)
