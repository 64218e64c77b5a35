use Rattle.std.proofs.Common.{◌++◌, filter, not, sym, ap, ◌∙◌}
use Rattle.std.proofs.lemmas.List.{append-nil}
use Rattle.std.proofs.lemmas.Result.{on_ok_weaker}
use Rattle.wm_collections.specs.Lists.{is_among}
use Rattle.wm_commands.proofs.IndexedWorks.{id-stays, numbers_of_id}
use Rattle.wm_steps.proofs.Views.{reached-view}
use Rattle.wm_commands.proofs.placing.add_stored.Goals as goal

pub returns-in-Some : goal.returns-in-Some
returns-in-Some c =
    let s = c.args.view.now in
    let removed = c.args.clearing.now.removed in
    let order = (reached-view _ s _ c.view.view_is c.view.invariant).works.in_order in
    on_ok_weaker c.add_kept.result (λ is. is ∙ ap (λ added. c.args.numbers.now ++ added)
    (ap (λ found. filter (λ one. not (is_among removed one)) (numbers_of_id found)) (sym c.in-Some.is ∙ c.number_of.ensures)
    ∙ id-stays s.works removed c.args.id order)) c.add_kept.ensures

pub returns-in-None : goal.returns-in-None
returns-in-None c =
    let s = c.args.view.now in
    let removed = c.args.clearing.now.removed in
    let order = (reached-view _ s _ c.view.view_is c.view.invariant).works.in_order in
    sym (append-nil c.args.numbers.now) ∙ ap (λ added. c.args.numbers.now ++ added)
    (ap (λ found. filter (λ one. not (is_among removed one)) (numbers_of_id found)) (sym c.in-None.is ∙ c.number_of.ensures)
    ∙ id-stays s.works removed c.args.id order)
