use Rattle.std.proofs.Common.{◌++◌, List, [], ◌∷◌, ◌∙◌, ap}
use Rattle.wm_runs.proofs.Touched.{replaced-all}
use Rattle.wm_runs.specs.Reached.{change_by, others}
use Rattle.wm_steps.proofs.Views.{reached-view}
use Rattle.wm_changes.specs.Replacements.{by_numbers}
use Rattle.wm_changes.specs.declared.change.Replacement.{Replacement}
use Rattle.wm_runs.proofs.reach.replaced_by.Goals as goal

pub returns : goal.returns
returns c =
    let itself = c.args.itself.now in
    let to = c.args.reach.now in
    let works = c.args.view.now.works in
    let order = (reached-view _ c.args.view.now _ c.view.view_is c.view.invariant).works.in_order in
    let numbers = c.numbers.result.now in
    let change = change_by itself to in
    let itself_added = c.in_ok-add_replacement.ensures ∙ ap (λ (front : List Replacement). front ++ by_numbers change (itself.seq ∷ []) works) c.new-replaced.ensures in
    c.in_ok-add_others.ensures
    ∙ ap (λ (front : List Replacement). front ++ by_numbers change (others itself.seq numbers) works) itself_added
    ∙ replaced-all itself to works numbers order c.requires c.numbers.ensures
