use Rattle.std.proofs.Common.{sym, subst}
use Rattle.wm_conditions.specs.Signatures.{AreMet}
use Rattle.wm_conditions.specs.declared.conditions.Conditions.{Conditions}
use Rattle.wm_machine.specs.declared.state.State.{State}
use Rattle.wm_steps.proofs.Wakes.{wake-is}
use Rattle.wm_steps.specs.Readied.{AreBusy}
use Rattle.wm_steps.specs.Wakes.{IsWakeOf}
use Rattle.wm_steps.proofs.view.View.wake.Goals as goal

pub returns : goal.returns
returns c =
    let s = c.self.inside.state in
    let kept = c.self.inside.startable in
    let are = c.self.invariant.startable_are in
    let told : AreMet s.conditions c.met.result = subst (λ (d : Conditions). AreMet d c.met.result) are.rooms.tracked c.met.ensures in
    let rooms : AreBusy kept.classes s.instances c.deref.result.now = subst (AreBusy kept.classes s.instances) (sym c.deref.ensures.value) are.rooms.busy_are in
    subst (λ (t : State). IsWakeOf t c.wake.result) c.self.view_is
    (wake-is kept.classes s kept.ready c.met.result c.deref.result.now are.ready_are told rooms c.wake.result c.wake.ensures)
