use Rattle.std.proofs.Common.{length, sym, ◌∙◌, ap}
use Rattle.wm_cli.proofs.Desks.{roll-fronted}
use Rattle.wm_cli.proofs.desk.Desk.front_step.Goals as goal

-- a line leaves the roll, and the ledger
pub invariant_of-self : goal.invariant_of-self
invariant_of-self g c =
    record { counted = c.args.self.now.counted ∙ ap length (sym (roll-fronted g.K.Keeper.store g.B.Worker.kind_of c.front_step.result _ _ c.front_step.ensures)) }
