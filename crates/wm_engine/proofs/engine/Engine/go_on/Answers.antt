use Rattle.std.proofs.Common.{◌≡◌, List, ◌∷◌, ◌++◌, [], refl, sym, ◌∙◌, ap, subst}
use Rattle.wm_engine.proofs.Claims.{IsUntouched-roll}
use Rattle.wm_engine.proofs.Parts.{part-turned}
use Rattle.wm_engine.specs.Calls.{HasGoneOn, IsTicketIn, IsUntouched}
use Rattle.wm_engine.specs.TableState.{TicketState}
use Rattle.wm_engine.proofs.Besides.{gone-on}
use Rattle.wm_machine.specs.Runs.{run_numbered}
use Rattle.std.specs.Prelude.{IsSomeAnd}
use Rattle.wm_engine.specs.Engine.{beside}
use Rattle.wm_engine.specs.Images.{IsNoLine}
use Rattle.wm_engine.specs.EngineState.{EngineState}
use Rattle.wm_engine.specs.Parts.{ticket_part, Stands}
use Rattle.wm_machine.specs.Step.{after}
use Rattle.wm_machine.specs.declared.event.Event.TheVariants as event
use Rattle.wm_machine.specs.declared.state.State.{State}
use Rattle.wm_roll.specs.declared.part.Part.{Part}
use Rattle.wm_engine.proofs.engine.Engine.go_on.Goals as goal

pub returns-in-Ok-clause-roll : goal.returns-in-Ok-clause-roll
returns-in-Ok-clause-roll g c =
    let turned = c.in-Ok.ensures.ok c.args.self.now.state in
    let next = c.held_for-next.result in
    let s = c.args.self.now.state in
    let state_is : c.self.inside.view ≡ after s (event.Turn c.args.held.task.run turned.progress) =
    ap (λ (e : EngineState g.row.K.Denot). e.state) c.self.view_is ∙ turned.step.state in
    let there = subst (λ (t : State). IsTicketIn t next) state_is c.held_for-next.ensures.ticket in
    let part = part-turned s c.args.held next turned.progress turned.step.legal c.requires.stands c.held_for-next.ensures.run there in
    ap (λ (e : EngineState g.row.K.Denot). e.roll) c.issue.ensures.engine
    ∙ ap (λ (parts : List Part). parts ++ ticket_part next ∷ []) c.in-Ok.ensures.roll
    ∙ ap (λ (p : Part). c.args.self.now.roll ++ p ∷ []) part

pub issue-requires-in-Err-clause-stands : goal.issue-requires-in-Err-clause-stands
issue-requires-in-Err-clause-stands g c =
    let same = c.in-Err.ensures.err c.args.self.now.state in
    subst (λ (s : State). Stands s c.args.held) (sym same.state) c.requires.stands

pub held_for-next-requires : goal.held_for-next-requires
held_for-next-requires g c =
    let turned = c.in-Ok.ensures.ok c.args.self.now.state in
    let number = c.args.held.task.run in
    let state_is : c.advance.new.self.state ≡ c.self.inside.view = ap (λ (e : EngineState g.row.K.Denot). e.state) (sym c.self.view_is) in
    let there = subst (λ (s : State). IsSomeAnd (run_numbered number s.runs) (λ run. c.args.told.input ≡ run.input)) state_is turned.input in
    subst (λ input. IsSomeAnd (run_numbered number c.self.inside.view.runs) (λ run. input ≡ run.input)) (sym c.into_input.ensures) there

pub returns-in-Ok-clause-answer : goal.returns-in-Ok-clause-answer
returns-in-Ok-clause-answer g c =
    let store = g.K.Keeper.store in
    let old = c.args.self.now in
    let before = c.args.events.now.items in
    let new = c.advance.new.self in
    let events = c.advance.new.events.items in
    let next = c.held_for-next.result in
    let state_is : c.self.inside.view ≡ new.state = ap (λ (e : EngineState g.row.K.Denot). e.state) c.self.view_is in
    let there = subst (λ (s : State). IsTicketIn s next) state_is c.held_for-next.ensures.ticket in
    λ first. subst (λ (e : EngineState g.row.K.Denot). HasGoneOn store c.args.held c.args.told c.issue.result (beside first old before) (beside first e events)) (sym c.issue.ensures.engine)
    (subst (λ (t : TicketState). HasGoneOn store c.args.held c.args.told t (beside first old before) (beside first (record new { roll = new.roll ++ ticket_part next ∷ [] }) events)) (sym c.issue.ensures.ticket)
    (gone-on store (beside first old before) (beside first new events) (new.roll ++ ticket_part next ∷ []) c.args.held next c.args.told c.requires.counts (c.in-Ok.ensures.ok first)
    c.held_for-next.ensures.run there))

pub returns-in-Err-clause-answer : goal.returns-in-Err-clause-answer
returns-in-Err-clause-answer g c =
    let store = g.K.Keeper.store in
    let old = c.args.self.now in
    let before = c.args.events.now.items in
    let new = c.advance.new.self in
    let events = c.advance.new.events.items in
    λ first. record {
      counts = c.requires.counts;
      same_ticket = c.issue-in-Err.ensures.ticket;
      same_report = refl;
      untouched = subst (λ (e : EngineState g.row.K.Denot). IsUntouched store IsNoLine (beside first old before) (beside first e events)) (sym c.issue-in-Err.ensures.engine)
          (IsUntouched-roll store IsNoLine (beside first old before) (beside first new events) (new.roll ++ ticket_part c.args.held ∷ []) (c.in-Err.ensures.err first));
    }
