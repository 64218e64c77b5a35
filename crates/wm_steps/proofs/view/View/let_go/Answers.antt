use Rattle.std.proofs.Common.{◌≡◌, rules, sym, subst}
use Rattle.wm_machine.specs.declared.state.State.{State}
use Rattle.wm_changes.specs.StepChanges.{changed_state}
use Rattle.wm_steps.proofs.BusyClasses.{step-named}
use Rattle.wm_steps.proofs.StepParts.{letting-next, letting-viewed, step-inside}
use Rattle.wm_steps.specs.Readied.{AreNamed}
use Rattle.wm_steps.proofs.view.View.let_go.Goals as goal

pub change-event-requires-clause-few : goal.change-event-requires-clause-few
change-event-requires-clause-few c = letting-next c.args.change c.take-lists.new.state.next_run c.requires.away

pub follow-requires-clause-named : goal.follow-requires-clause-named
follow-requires-clause-named c =
    let s = c.self.inside.state in
    let change = c.args.change in
    let made_is : c.put_back.new.state ≡ changed_state change s = search rules in
    subst (λ (t : State). AreNamed c.self.inside.startable.classes t.instances) (sym made_is)
    (step-named c.self.inside.startable.classes s change c.self.invariant.startable_are.rooms.named)

pub invariant_of-self : goal.invariant_of-self
invariant_of-self c =
    let s = c.self.inside.state in
    let change = c.args.change in
    let is = step-inside s _ change c.self.view_is c.requires.step in
    let made_is : c.put_back.new.state ≡ changed_state change s = search rules in
    letting-viewed s c.put_back.new.state c.self.inside.graph c.self.inside.index c.self.inside.startable c.follow.new.self c.self.inside.covers change
    c.self.invariant is c.requires.away made_is c.follow.ensures.rooms c.follow.ensures.ready c.follow.ensures.classes
