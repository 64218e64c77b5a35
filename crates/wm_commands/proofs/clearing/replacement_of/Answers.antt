use Rattle.std.proofs.Common.{◌≡◌, Bool, true, false, cond, slice_get, Some, None, option_map, rules, sym, ◌∙◌, ap}
use Rattle.wm_commands.specs.Cleared.{cleared, cleared_by, is_touched}
use Rattle.wm_machine.specs.Input.{work_numbered}
use Rattle.wm_machine.specs.declared.record.Record.{Record}
use Rattle.wm_steps.proofs.ByNumbers.{replacement-found, replacement-none}
use Rattle.wm_steps.proofs.Views.{reached-view}
use Rattle.wm_commands.proofs.clearing.replacement_of.Goals as goal

pub returns-in_default : goal.returns-in_default
returns-in_default c =
    let works = c.args.view.now.works in
    let none : work_numbered c.args.number works ≡ None = search rules in
    sym (replacement-none (cleared_by c.args.clearing.now) c.args.number 0 works none)

pub returns-in_ok-work : goal.returns-in_ok-work
returns-in_ok-work c =
    let works = c.args.view.now.works in
    let order = (reached-view _ c.args.view.now _ c.view.view_is c.view.invariant).works.in_order in
    let clearing = c.args.clearing.now in
    let index = c.in-Some.index in
    let work = c.work_at-work.result.now in
    let found : work_numbered c.args.number works ≡ slice_get works index = search rules in
    let there : slice_get works index ≡ Some work = search rules in
    let touched : is_touched clearing work ≡ true = sym c.is_touched.ensures ∙ c.if-is_touched.true in
    sym (replacement-found (cleared_by clearing) c.args.number works index work order found there
    ∙ ap (λ (b : Bool). option_map (λ (new : Record). record { index = index; work = new }) (cond b (Some (cleared clearing work)) None)) touched
    ∙ ap (λ (new : Record). option_map (λ (changed : Record). record { index = index; work = changed }) (Some new)) (sym c.in_ok-work.ensures))

pub returns-else-is_touched : goal.returns-else-is_touched
returns-else-is_touched c =
    let works = c.args.view.now.works in
    let order = (reached-view _ c.args.view.now _ c.view.view_is c.view.invariant).works.in_order in
    let clearing = c.args.clearing.now in
    let index = c.in-Some.index in
    let work = c.work_at-work.result.now in
    let found : work_numbered c.args.number works ≡ slice_get works index = search rules in
    let there : slice_get works index ≡ Some work = search rules in
    let untouched : is_touched clearing work ≡ false = sym c.is_touched.ensures ∙ c.if-is_touched.false in
    sym (replacement-found (cleared_by clearing) c.args.number works index work order found there
    ∙ ap (λ (b : Bool). option_map (λ (new : Record). record { index = index; work = new }) (cond b (Some (cleared clearing work)) None)) untouched)
