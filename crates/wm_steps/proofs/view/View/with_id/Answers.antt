use Rattle.std.proofs.Common.{◌≡◌, Some, None, option_map, refl, sym, ap, subst, ◌∙◌}
use Rattle.std.specs.Option.{option_copied}
use Rattle.wm_collections.proofs.Lists.{option_map-none}
use Rattle.wm_machine.specs.Cancelled.{work_with_id}
use Rattle.wm_machine.specs.Input.{work_numbered}
use Rattle.wm_machine.specs.declared.record.Record.{Record}
use Rattle.wm_machine.specs.declared.state.State.{State}
use Rattle.wm_steps.proofs.FoundEntries.{id-found}
use Rattle.wm_steps.proofs.WorksWithIds.{numbered-with_id}
use Rattle.wm_steps.proofs.view.View.with_id.Goals as goal

pub returns-clause-found : goal.returns-clause-found
returns-clause-found c =
    let s = c.self.inside.state in
    let id = c.args.id in
    let number = c.in_ok-number.number in
    let has : Some number ≡ option_map (λ (work : Record). work.seq) (work_with_id s.works id) =
    c.in_ok-number.ensures ∙ id-found s.works c.self.inside.index id c.self.invariant.entries_are in
    let here : work_numbered number s.works ≡ work_with_id s.works id =
    numbered-with_id s.works id number (work_with_id s.works id) c.self.invariant.valid.works.in_order refl has in
    c.work.ensures.found ∙ subst (λ (t : State). work_numbered number t.works ≡ work_with_id t.works id) c.self.view_is here

pub returns-in_err-number-clause-found : goal.returns-in_err-number-clause-found
returns-in_err-number-clause-found c =
    let s = c.self.inside.state in
    let id = c.args.id in
    let none : option_map (λ (work : Record). work.seq) (work_with_id s.works id) ≡ None =
    sym (c.in_err-number.ensures ∙ id-found s.works c.self.inside.index id c.self.invariant.entries_are) in
    ap option_copied c.from_residual.ensures
    ∙ subst (λ (t : State). None ≡ work_with_id t.works id) c.self.view_is (sym (option_map-none _ (work_with_id s.works id) none))
