use Rattle.std.proofs.Common.{◌≡◌, ℕ, [], ◌∷◌, ◌∙◌, ap, refl, subst, rules}
use Rattle.wm_session.proofs.Words.{Begun, IsDriven, diary_with}
use Rattle.wm_session.proofs.BoxLemmas.{KeepBoxesOut-later}
use Rattle.wm_session.proofs.DiaryLemmas.{IsDiaryLater-same}
use Rattle.wm_session.proofs.SerialLemmas.{IsDriven-refused}
use Rattle.wm_session.proofs.serial.drive.Goals as goal

pub returns-in-Ok : goal.returns-in-Ok
returns-in-Ok g c =
    let diary_of = g.B.Worker.diary_of in
    let begun = Begun c.args.ticket.task.run ∷ [] in
    let has = diary_of c.args.seat.worker in
    let number = c.args.ticket.instance in
    let run : c.task.result.now.run ≡ c.args.ticket.task.run = search rules in
    let written : diary_of c.begin.new.self.worker ≡ diary_with begun has =
    c.in-Ok.ensures.diary ∙ ap (λ (n : ℕ). diary_with (Begun n ∷ []) has) run in
    let owes = diary_with begun has in
    let driven : IsDriven diary_of number owes owes c.args.book.now c.take_turns.new.book =
    subst (λ diary. IsDriven diary_of number diary diary c.args.book.now c.take_turns.new.book) written c.take_turns.ensures in
    record {
      rest = driven.rest;
      left = driven.left;
      no_more = driven.no_more;
      order = driven.order;
      boxes = λ given keep. driven.boxes given (KeepBoxesOut-later diary_of number has owes given c.args.book.now (begun, refl) keep);
    }

pub returns-in-Stopped : goal.returns-in-Stopped
returns-in-Stopped g c =
    let diary_of = g.B.Worker.diary_of in
    let has = diary_of c.args.seat.worker in
    let seat = c.begin.new.self in
    IsDriven-refused g.K.Keeper.store g.B.Worker.kind_of diary_of c.args.ticket c.args.seat.worker seat (c.begin.ensures.number ∙ c.requires.number)
    c.args.book.now c.report.new.self c.requires.under_way has (diary_with (Begun c.args.ticket.task.run ∷ []) has)
    (IsDiaryLater-same has (diary_of seat.worker) c.in-Err.ensures.diary_err) c.in-Stopped.ensures
