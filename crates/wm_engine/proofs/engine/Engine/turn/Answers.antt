use Rattle.std.proofs.Common.{◌≡◌, rules, List, refl, ap, subst}
use Rattle.wm_engine.proofs.Besides.{roll-off, turn-off}
use Rattle.wm_engine.specs.Calls.{IsTurnAnswer}
use Rattle.wm_engine.specs.Engine.{beside, Beside}
use Rattle.wm_engine.specs.EngineState.{EngineState}
use Rattle.wm_engine.specs.Rolls.{IsRollReturned}
use Rattle.wm_engine.specs.TableState.{TicketState}
use Rattle.wm_roll.specs.Parts.{without}
use Rattle.wm_roll.specs.declared.part.Part.{Part}
use Rattle.wm_runs.specs.Reports.{CountsIn}
use Rattle.wm_engine.proofs.engine.Engine.turn.Goals as goal

pub returns-then-is_stopped-clause-cause : goal.returns-then-is_stopped-clause-cause
returns-then-is_stopped-clause-cause g c = ap (λ keeper. (g.K.Keeper.store keeper).faults) (c.return_stopped.ensures.returned c.args.self.now.state).keeper

pub returns-then-goes_on-clause-answer : goal.returns-then-goes_on-clause-answer
returns-then-goes_on-clause-answer g c =
    let store = g.K.Keeper.store in
    let old = c.args.self.now in
    let before = c.args.events.now.items in
    let new = c.go_on.new.self in
    let events = c.go_on.new.events.items in
    let ticket = c.args.ticket in
    let counts : CountsIn old.state ticket.task.run c.args.told = search rules in
    let its = subst (λ (t : TicketState). Beside (IsTurnAnswer store t c.args.told c.go_on.result) c.take-held.new.self before new events)
    c.take-held.ensures.held c.go_on.ensures.answer in
    let made = subst (λ (e : EngineState g.row.K.Denot). Beside (IsTurnAnswer store ticket c.args.told c.go_on.result) e before new events) c.take-held.ensures.engine its in
    λ first. turn-off store (beside first old before) (beside first new events) (without ticket.task.run old.roll) ticket c.args.told c.go_on.result counts (made first)

pub returns-then-goes_on-clause-roll : goal.returns-then-goes_on-clause-roll
returns-then-goes_on-clause-roll g c =
    let store = g.K.Keeper.store in
    let old = c.args.self.now in
    let before = c.args.events.now.items in
    let new = c.go_on.new.self in
    let events = c.go_on.new.events.items in
    let ticket = c.args.ticket in
    let left = without ticket.task.run old.roll in
    let counts : CountsIn old.state ticket.task.run c.args.told = search rules in
    let its = subst (λ (t : TicketState). Beside (IsTurnAnswer store t c.args.told c.go_on.result) c.take-held.new.self before new events)
    c.take-held.ensures.held c.go_on.ensures.answer in
    let made = subst (λ (e : EngineState g.row.K.Denot). Beside (IsTurnAnswer store ticket c.args.told c.go_on.result) e before new events) c.take-held.ensures.engine its in
    let taken : c.take-held.new.self.roll ≡ left = ap (λ (e : EngineState g.row.K.Denot). e.roll) c.take-held.ensures.engine in
    let rolled = subst (λ (t : TicketState). IsRollReturned t c.go_on.result c.take-held.new.self.roll new.roll) c.take-held.ensures.held c.go_on.ensures.roll in
    let returned = subst (λ (parts : List Part). IsRollReturned ticket c.go_on.result parts new.roll) taken rolled in
    roll-off store (beside old.state old before) (beside old.state new events) left ticket c.args.told c.go_on.result counts (made old.state) refl returned

pub returns-else-goes_on-clause-answer : goal.returns-else-goes_on-clause-answer
returns-else-goes_on-clause-answer g c =
    let store = g.K.Keeper.store in
    let old = c.args.self.now in
    let before = c.args.events.now.items in
    let new = c.end_run.new.self in
    let events = c.end_run.new.events.items in
    let ticket = c.args.ticket in
    let counts : CountsIn old.state ticket.task.run c.args.told = search rules in
    let its = subst (λ (t : TicketState). Beside (IsTurnAnswer store t c.args.told c.end_run.result) c.take-held.new.self before new events)
    c.take-held.ensures.held c.end_run.ensures.answer in
    let made = subst (λ (e : EngineState g.row.K.Denot). Beside (IsTurnAnswer store ticket c.args.told c.end_run.result) e before new events) c.take-held.ensures.engine its in
    λ first. turn-off store (beside first old before) (beside first new events) (without ticket.task.run old.roll) ticket c.args.told c.end_run.result counts (made first)

pub returns-else-goes_on-clause-roll : goal.returns-else-goes_on-clause-roll
returns-else-goes_on-clause-roll g c =
    let store = g.K.Keeper.store in
    let old = c.args.self.now in
    let before = c.args.events.now.items in
    let new = c.end_run.new.self in
    let events = c.end_run.new.events.items in
    let ticket = c.args.ticket in
    let left = without ticket.task.run old.roll in
    let counts : CountsIn old.state ticket.task.run c.args.told = search rules in
    let its = subst (λ (t : TicketState). Beside (IsTurnAnswer store t c.args.told c.end_run.result) c.take-held.new.self before new events)
    c.take-held.ensures.held c.end_run.ensures.answer in
    let made = subst (λ (e : EngineState g.row.K.Denot). Beside (IsTurnAnswer store ticket c.args.told c.end_run.result) e before new events) c.take-held.ensures.engine its in
    let taken : c.take-held.new.self.roll ≡ left = ap (λ (e : EngineState g.row.K.Denot). e.roll) c.take-held.ensures.engine in
    let rolled = subst (λ (t : TicketState). IsRollReturned t c.end_run.result c.take-held.new.self.roll new.roll) c.take-held.ensures.held c.end_run.ensures.roll in
    let returned = subst (λ (parts : List Part). IsRollReturned ticket c.end_run.result parts new.roll) taken rolled in
    roll-off store (beside old.state old before) (beside old.state new events) left ticket c.args.told c.end_run.result counts (made old.state) refl returned
