use Rattle.std.proofs.Common.{◌≡◌, List, Some, None, rules, ◌∙◌, ap}
use Rattle.wm_machine.specs.First.{has_succeeded}
use Rattle.wm_machine.specs.Input.{work_numbered}
use Rattle.wm_machine.specs.declared.record.Record.{Record}
use Rattle.wm_steps.proofs.Views.{reached-view}
use Rattle.wm_observe.proofs.StepRecords.{found-succeeded, new-in_order, new-succeeded}
use Rattle.wm_observe.proofs.comparing.has_succeeded_then.Goals as goal

pub has_succeeded-requires : goal.has_succeeded-requires
has_succeeded-requires c =
    let s = c.args.view.now in
    let reached = reached-view _ s _ c.view.view_is c.view.invariant in
    rw c.as_slice.ensures (new-in_order s c.args.change.now reached c.requires.step)

pub returns-in-Some : goal.returns-in-Some
returns-in-Some c =
    let s = c.args.view.now in
    let reached = reached-view _ s _ c.view.view_is c.view.invariant in
    let found : work_numbered c.args.number s.works ≡ Some c.in-Some.work.now = search rules in
    c.succeeds.ensures ∙ found-succeeded s c.args.change.now reached c.requires.step c.args.number c.in-Some.work.now found

pub returns-in-None : goal.returns-in-None
returns-in-None c =
    let s = c.args.view.now in
    let reached = reached-view _ s _ c.view.view_is c.view.invariant in
    let none : work_numbered c.args.number s.works ≡ None = search rules in
    c.has_succeeded.ensures ∙ ap (λ (placed : List Record). has_succeeded placed c.args.number) c.as_slice.ensures
    ∙ new-succeeded s c.args.change.now reached c.requires.step c.args.number none
