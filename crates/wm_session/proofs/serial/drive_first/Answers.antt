use Rattle.std.proofs.Common.{refl}
use Rattle.wm_seating.proofs.Turnings.{Replay-step}
use Rattle.wm_session.proofs.BoxLemmas.{KeepBoxes-begun, KeepBoxes-silent, KeepBoxes-stopped}
use Rattle.wm_session.proofs.SerialLemmas.{GoesInOrder-claimed, IsBetweenRuns-halted, IsHalted-claim, IsUnderWay-begun, failed_none, rest_again}
use Rattle.wm_engine.specs.declared.engine.Claim.TheVariants as claim
use Rattle.wm_session.proofs.serial.drive_first.Goals as goal
use Rattle.wm_machine.specs.declared.event.Event.TheVariants as event

pub drive-requires-clause-under_way : goal.drive-requires-clause-under_way
drive-requires-clause-under_way g c = IsUnderWay-begun c.requires c.in-Run.ensures

pub returns-in-Run-clause-order : goal.returns-in-Run-clause-order
returns-in-Run-clause-order g c lines goes =
    let begun = c.in-Run.ensures in
    c.drive.ensures.order lines
    (GoesInOrder-claimed g.K.Keeper.store c.args.book.now c.claim_alone.new.self c.requires begun.goes_on.before
    {M = Unit {0}} (claim.Run c.in-Run.ticket) (record { step = begun.step; ticket_in = begun.ticket_in }) lines goes)

pub returns-in-Run-clause-boxes : goal.returns-in-Run-clause-boxes
returns-in-Run-clause-boxes g c given keep =
    c.drive.ensures.boxes given (KeepBoxes-begun g.B.Worker.diary_of given c.requires c.in-Run.ensures keep)

pub returns-in-Failed-clause-rest : goal.returns-in-Failed-clause-rest
returns-in-Failed-clause-rest g c =
    let failed = c.in-Failed.ensures in
    let store = g.K.Keeper.store in
    let old = c.args.book.now in
    let new = c.claim_alone.new.self in
    rest_again c.requires (Replay-step store (event.StartFailed failed.seq failed.cause) old.table new.table c.requires.replay failed.step)
    (λ going. failed_none store old new c.requires failed.goes_on.before failed.seq failed.cause failed.step) failed.roll failed.places

pub returns-in-Failed-clause-order : goal.returns-in-Failed-clause-order
returns-in-Failed-clause-order g c =
    let failed = c.in-Failed.ensures in
    GoesInOrder-claimed g.K.Keeper.store c.args.book.now c.claim_alone.new.self c.requires failed.goes_on.before {M = Unit {0}}
    (claim.Failed failed.seq failed.cause) failed.step

pub returns-in-Failed-clause-boxes : goal.returns-in-Failed-clause-boxes
returns-in-Failed-clause-boxes g c given =
    let failed = c.in-Failed.ensures in
    KeepBoxes-silent g.B.Worker.diary_of given c.args.book.now c.claim_alone.new.self c.requires.replay failed.step
    (λ going. failed.goes_on.before) (λ going number. refl) (λ number worker idle. rw failed.places at idle)

pub returns-in-Stopped-clause-rest : goal.returns-in-Stopped-clause-rest
returns-in-Stopped-clause-rest g c = IsBetweenRuns-halted c.requires c.in-Stopped.ensures

pub returns-in-Stopped-clause-left : goal.returns-in-Stopped-clause-left
returns-in-Stopped-clause-left g c = (IsHalted-claim c.requires c.in-Stopped.ensures).left

pub returns-in-Stopped-clause-stopped : goal.returns-in-Stopped-clause-stopped
returns-in-Stopped-clause-stopped g c is = (IsHalted-claim c.requires c.in-Stopped.ensures).status

pub returns-in-Stopped-clause-order : goal.returns-in-Stopped-clause-order
returns-in-Stopped-clause-order g c = (IsHalted-claim c.requires c.in-Stopped.ensures).order

pub returns-in-Stopped-clause-boxes : goal.returns-in-Stopped-clause-boxes
returns-in-Stopped-clause-boxes g c given =
    let stopped = c.in-Stopped.ensures in
    let halted = IsHalted-claim c.requires stopped in
    KeepBoxes-stopped g.B.Worker.diary_of given c.args.book.now c.claim_alone.new.self halted.status halted.starts
    (λ number worker idle. rw stopped.places at idle)
