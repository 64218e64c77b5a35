use Rattle.std.proofs.Common.{◌≡◌, false, rules, sym, ◌∙◌}
use Rattle.wm_commands.proofs.ClearedNumbers.{any_of_number}
use Rattle.wm_commands.specs.Placed.{is_then}
use Rattle.wm_machine.proofs.Runnings.{WorksAscend-in_order}
use Rattle.wm_steps.proofs.Views.{reached-view}
use Rattle.wm_unique.specs.Plans.{numbered_passes}
use Rattle.wm_commands.proofs.placing.has_stored.Goals as goal

pub returns-in-Some : goal.returns-in-Some
returns-in-Some c =
    let works = c.args.view.now.works in
    let order = (reached-view _ c.args.view.now _ c.view.view_is c.view.invariant).works.in_order in
    let test = is_then c.args.clearing.now c.args.how in
    let passes : c.is_then.result ≡ numbered_passes test works c.args.number = search rules in
    passes ∙ sym (any_of_number test c.args.number works (WorksAscend-in_order works order))

pub returns-in-None : goal.returns-in-None
returns-in-None c =
    let works = c.args.view.now.works in
    let order = (reached-view _ c.args.view.now _ c.view.view_is c.view.invariant).works.in_order in
    let test = is_then c.args.clearing.now c.args.how in
    let passes : false ≡ numbered_passes test works c.args.number = search rules in
    passes ∙ sym (any_of_number test c.args.number works (WorksAscend-in_order works order))
