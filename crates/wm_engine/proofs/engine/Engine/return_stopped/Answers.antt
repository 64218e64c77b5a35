use Rattle.std.proofs.Common.{ℕ, ap, subst}
use Rattle.wm_engine.proofs.Besides.{returned-off}
use Rattle.wm_engine.specs.Calls.{IsReturned}
use Rattle.wm_engine.specs.Engine.{beside, Beside}
use Rattle.wm_engine.specs.EngineState.{EngineState}
use Rattle.wm_engine.specs.TableState.{TicketState}
use Rattle.wm_roll.specs.Parts.{without}
use Rattle.wm_engine.proofs.engine.Engine.return_stopped.Goals as goal

pub returns-clause-returned : goal.returns-clause-returned
returns-clause-returned g c =
    let store = g.K.Keeper.store in
    let old = c.args.self.now in
    let before = c.args.events.now.items in
    let new = c.make_return.new.self in
    let events = c.make_return.new.events.items in
    let number = c.args.ticket.task.run in
    let its = subst (λ (n : ℕ). Beside (IsReturned store n) c.take-held.new.self before new events)
    (ap (λ (t : TicketState). t.task.run) c.take-held.ensures.held) c.make_return.ensures.returned in
    let made = subst (λ (e : EngineState g.row.K.Denot). Beside (IsReturned store number) e before new events) c.take-held.ensures.engine its in
    λ first. returned-off store (beside first old before) (beside first new events) (without number old.roll) number (made first)
