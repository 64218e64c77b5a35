use Rattle.std.proofs.Common.{◌∙◌}
use Rattle.wm_session.proofs.SerialLemmas.{GoesOnWith-reported, IsDriven-reported}
use Rattle.wm_session.proofs.serial.turn_once.Goals as goal

pub returns-in-Go : goal.returns-in-Go
returns-in-Go g c =
    let told = c.turn-told in
    GoesOnWith-reported g.K.Keeper.store g.B.Worker.kind_of g.B.Worker.diary_of c.args.ticket c.args.seat.worker told.new.seat
    (told.ensures.number ∙ c.requires.number) c.args.book.now c.report.new.self c.requires.under_way g.row.M.Denot told.result c.in-Go.next c.in-Go.kept
    (told.ensures.kind ∙ c.requires.kind) c.in-Go.ensures told.ensures.written

pub returns-in-Over : goal.returns-in-Over
returns-in-Over g c =
    let told = c.turn-told in
    IsDriven-reported g.K.Keeper.store g.B.Worker.kind_of g.B.Worker.diary_of c.args.ticket c.args.seat.worker told.new.seat
    (told.ensures.number ∙ c.requires.number) c.args.book.now c.report.new.self c.requires.under_way told.result c.report.result c.report.ensures
    c.in-Over.is told.ensures.written
