use Rattle.std.proofs.Common.{◌≡◌, rules, ◌∷◌, ◌++◌, [], sym, subst}
use Rattle.wm_collections.proofs.Lists.{All-push}
use Rattle.wm_collections.specs.Lists.{HasOne}
use Rattle.wm_engine.proofs.Parts.{out-standing}
use Rattle.wm_engine.proofs.Steps.{kept-roll}
use Rattle.wm_engine.specs.EngineState.{EngineState}
use Rattle.wm_engine.specs.Parts.{part_of, ticket_part, Stands}
use Rattle.wm_engine.proofs.engine.Engine.issue.Goals as goal

pub invariant_of-self : goal.invariant_of-self
invariant_of-self g c =
    let i = c.self.inside in
    let stands = subst (λ (e : EngineState g.row.K.Denot). Stands e.state c.args.held) (sym c.self.view_is) c.requires.stands in
    let parts : c.give-token.new.self.parts ≡ i.roll.parts ++ ticket_part c.args.held ∷ [] = search rules in
    kept-roll g.M.Mark.inputs i.view (g.K.Keeper.store i.keeper) i.roll c.give-token.new.self c.self.invariant c.give-token.ensures.same
    (rw parts
    (All-push (λ part. HasOne (λ run. part_of run ≡ part) i.view.runs) i.roll.parts (ticket_part c.args.held) c.self.invariant.out
    (out-standing i.view c.args.held stands)))
