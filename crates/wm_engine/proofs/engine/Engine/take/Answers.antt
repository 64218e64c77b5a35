use Rattle.std.proofs.Common.{◌≡◌, ◌+◌, List, length, ap, sym, subst, ◌∙◌}
use Rattle.wm_collections.proofs.Lists.{All-kept}
use Rattle.wm_engine.proofs.Parts.{none-without, was-out}
use Rattle.wm_engine.proofs.Steps.{kept-roll}
use Rattle.wm_engine.specs.EngineState.{EngineState}
use Rattle.wm_engine.specs.Parts.{ticket_part, WasOut}
use Rattle.wm_roll.specs.Parts.{without, IsListed}
use Rattle.wm_roll.specs.declared.part.Part.{Part}
use Rattle.wm_engine.proofs.engine.Engine.take.Goals as goal

pub invariant_of-self : goal.invariant_of-self
invariant_of-self g c =
    let i = c.self.inside in
    kept-roll g.M.Mark.inputs i.view (g.K.Keeper.store i.keeper) i.roll c.take.new.self c.self.invariant c.take.ensures.same
    (rw c.take.ensures.parts (All-kept _ _ i.roll.parts c.self.invariant.out))

pub returns-clause-out : goal.returns-clause-out
returns-clause-out g c =
    let i = c.self.inside in
    let part : c.ticket.inside.token.part ≡ ticket_part c.args.ticket = rw (sym c.ticket.view_is) c.ticket.invariant.1 in
    let listed : IsListed i.roll.parts (ticket_part c.args.ticket) = subst (λ (p : Part). IsListed i.roll.parts p) part c.take.ensures.stood in
    let shorter : length (without c.args.ticket.task.run i.roll.parts) + 1 ≡ length i.roll.parts =
    subst (λ (p : Part). length (without p.run i.roll.parts) + 1 ≡ length i.roll.parts) part
    (ap (λ (parts : List Part). length parts + 1) (sym c.take.ensures.parts) ∙ c.take.ensures.shorter) in
    subst (λ (e : EngineState g.row.K.Denot). WasOut e.state e.roll c.args.ticket) c.self.view_is
    (was-out i.view i.roll.parts c.args.ticket c.self.invariant.valid c.self.invariant.out listed shorter)

pub returns-clause-off : goal.returns-clause-off
returns-clause-off g c =
    let part : c.ticket.inside.token.part ≡ ticket_part c.args.ticket = rw (sym c.ticket.view_is) c.ticket.invariant.1 in
    rw (c.take.ensures.parts, ap (λ (p : Part). p.run) part) (none-without c.args.ticket.task.run c.self.inside.roll.parts)
