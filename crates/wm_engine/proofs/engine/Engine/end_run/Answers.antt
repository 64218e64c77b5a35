use Rattle.std.proofs.Common.{◌∷◌, ◌++◌, [], refl, sym, subst}
use Rattle.wm_engine.proofs.Claims.{IsUntouched-roll}
use Rattle.wm_engine.specs.Calls.{IsUntouched}
use Rattle.wm_engine.specs.Engine.{beside}
use Rattle.wm_engine.specs.EngineState.{EngineState}
use Rattle.wm_engine.specs.Images.{IsNoLine}
use Rattle.wm_engine.specs.Parts.{ticket_part, Stands}
use Rattle.wm_machine.specs.declared.state.State.{State}
use Rattle.wm_engine.proofs.engine.Engine.end_run.Goals as goal

pub issue-requires-clause-stands : goal.issue-requires-clause-stands
issue-requires-clause-stands g c =
    let same = c.in-Err.ensures.err c.args.self.now.state in
    subst (λ (s : State). Stands s c.args.held) (sym same.state) c.requires.stands

pub returns-in-Err-clause-answer : goal.returns-in-Err-clause-answer
returns-in-Err-clause-answer g c =
    let store = g.K.Keeper.store in
    let old = c.args.self.now in
    let before = c.args.events.now.items in
    let new = c.finish.new.self in
    let events = c.finish.new.events.items in
    λ first. record {
      counts = c.requires.counts;
      same_ticket = c.issue.ensures.ticket;
      same_report = refl;
      untouched = subst (λ (e : EngineState g.row.K.Denot). IsUntouched store IsNoLine (beside first old before) (beside first e events)) (sym c.issue.ensures.engine)
          (IsUntouched-roll store IsNoLine (beside first old before) (beside first new events) (new.roll ++ ticket_part c.args.held ∷ []) (c.in-Err.ensures.err first));
    }
