use Rattle.std.proofs.Common.{subst, sym}
use Rattle.wm_session.proofs.Words.{AllByRecursion, AreInOrder, HasTold, IsAskable, IsBoxAfter, idle_hands}
use Rattle.wm_session.proofs.BoxLemmas.{AtPlace-weaker, KeepBoxes-begin}
use Rattle.wm_seating.proofs.Hands.{AreHandsBack-all}
use Rattle.wm_session.proofs.HandLemmas.{EachBack-all}
use Rattle.wm_session.proofs.SerialLemmas.{IsReady-begin, IsSerialRun-order}
use Rattle.wm_session.proofs.serial.run_serial.Goals as goal

pub returns-clause-end : goal.returns-clause-end
returns-clause-end g c =
    let kind_of = g.B.Worker.kind_of in
    let executed = c.execute_lines.ensures in
    let back = c.finish.ensures.back in
    record {
      session = c.finish.ensures.session;
      quiet = λ done. rw back.last (executed.quiet (c.finish.ensures.done done));
      hands = rw back.hands (AreHandsBack-all kind_of c.execute_lines.new.book.places c.finish.result.last executed.rest.none_away back.workers);
    }

pub returns-clause-serial : goal.returns-clause-serial
returns-clause-serial g c begins =
    let lines = g.M.Mark.inputs.lines in
    let kind_of = g.B.Worker.kind_of in
    let diary_of = g.B.Worker.diary_of in
    let given = idle_hands c.args.book.places in
    let executed = c.execute_lines.ensures in
    let book = c.execute_lines.new.book in
    let log = book.table.log in
    let last = c.finish.result in
    let session = c.finish.ensures.session in
    let back = c.finish.ensures.back in
    let none = executed.rest.none_away in
    let numbered = back.valid.instances.numbered in
    let boxes = executed.boxes given (KeepBoxes-begin diary_of c.args.book begins) in
    let order = (executed.order lines (IsReady-begin begins)).order in
    let askable : AllByRecursion IsAskable lines = subst (AllByRecursion IsAskable) (sym begins.lines_are) executed.askable in
    let in_order : AreInOrder lines last.first last.log = rw (back.first, back.log) order.in_order in
    record {
      boxes = rw (back.hands, back.log)
          (EachBack-all (IsBoxAfter diary_of log) given kind_of book.places last.last numbered none back.workers
          (AtPlace-weaker given book.places (λ number had now is. is.box) boxes));
      diaries = λ done.
          rw (back.hands, back.first, back.log)
          (EachBack-all (HasTold diary_of book.table.first log) given kind_of book.places last.last numbered none back.workers
          (AtPlace-weaker given book.places (λ number had now is. is.told (c.finish.ensures.done done)) boxes));
      serial = IsSerialRun-order lines last.status last.first last.last last.log askable session.commands (rw back.first order.from_rest)
          session.replay back.valid (rw back.last order.few_runs) in_order (λ done. rw back.last (executed.quiet (c.finish.ensures.done done)));
    }
