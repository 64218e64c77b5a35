use Rattle.std.proofs.Common.{◌≡◌, ℕ, List, ◌∙◌, ap}
use Rattle.std.proofs.lemmas.Result.{IfOk-weaker}
use Rattle.wm_commands.proofs.ClearedNumbers.{cleared-numbered}
use Rattle.wm_commands.specs.Cleared.{cleared_by, replaced_by_clearing}
use Rattle.wm_collections.specs.Sets.{AreMerged}
use Rattle.wm_steps.proofs.Views.{reached-view}
use Rattle.wm_changes.specs.Replacements.{by_numbers}
use Rattle.wm_commands.proofs.clearing.replaced_by_clearing.Goals as goal

pub returns : goal.returns
returns c =
    let works = c.args.view.now.works in
    let order = (reached-view _ c.args.view.now _ c.view.view_is c.view.invariant).works.in_order in
    let clearing = c.args.clearing.now in
    let change = cleared_by clearing in
    let numbers = c.in_ok-numbers.numbers.items in
    let merged : AreMerged clearing.cancelled clearing.unnamed numbers = rw (c.as_slice.ensures, c.as_slice-2.ensures) at c.in_ok-numbers.ensures in
    IfOk-weaker c.replaced_among.result (λ replaced. replaced ≡ by_numbers change c.deref.result.now works)
    (λ replaced. replaced ≡ replaced_by_clearing clearing works)
    (λ replaced is. is ∙ ap (λ (found : List ℕ). by_numbers change found works) c.deref.ensures.value
    ∙ cleared-numbered clearing numbers works order merged) c.replaced_among.ensures
