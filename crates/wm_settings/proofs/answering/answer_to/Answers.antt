use Rattle.std.proofs.Common.{◌≡◌, ◌==◌, false, filter, length, rules, ◌∙◌, ap}
use Rattle.std.specs.List.{list_any}
use Rattle.std.proofs.lemmas.Result.{IfOk-weaker}
use Rattle.wm_machine.specs.Group.{is_name, numbers_in}
use Rattle.wm_machine.specs.Queried.{has_tag}
use Rattle.wm_machine.specs.declared.record.Record.{Record}
use Rattle.wm_request.specs.Batches.{has_id}
use Rattle.wm_settings.proofs.FoundAnswers.{all-there, answered, answered-all, covers-ids, covers-names, covers-tags}
use Rattle.wm_steps.proofs.Views.{reached-view}
use Rattle.wm_settings.proofs.answering.answer_to.Goals as goal

pub returns-then-not-is_empty : goal.returns-then-not-is_empty
returns-then-not-is_empty c =
    let s = c.args.view.now in
    let query = c.args.query.now in
    let order = (reached-view _ s _ c.view.view_is c.view.invariant).works.in_order in
    let some : (length query.ids == 0) ≡ false = search rules in
    let are = c.as_slice-then-not-is_empty.ensures ∙ c.in_ok-numbers.ensures
    ∙ ap (λ asked. numbers_in (filter (λ (work : Record). has_id asked work.request.id) s.works)) c.as_slice.ensures in
    IfOk-weaker c.told_of.result _ _
    (λ told. answered s query (λ work. has_id query.ids work.request.id) c.as_slice-then-not-is_empty.result.now told order are (covers-ids query s.works some))
    c.told_of.ensures

pub returns-then-not-is_empty-2 : goal.returns-then-not-is_empty-2
returns-then-not-is_empty-2 c =
    let s = c.args.view.now in
    let query = c.args.query.now in
    let order = (reached-view _ s _ c.view.view_is c.view.invariant).works.in_order in
    let some : (length query.names == 0) ≡ false = search rules in
    let are = c.as_slice-then-not-is_empty-2-2.ensures ∙ c.in_ok-numbers-2.ensures
    ∙ ap (λ asked. numbers_in (filter (λ (work : Record). list_any (λ name. is_name name work.name) asked) s.works))
    c.as_slice-then-not-is_empty-2.ensures in
    IfOk-weaker c.told_of-then-not-is_empty-2.result _ _
    (λ told. answered s query (λ work. list_any (λ name. is_name name work.name) query.names) c.as_slice-then-not-is_empty-2-2.result.now told order are
    (covers-names query s.works some))
    c.told_of-then-not-is_empty-2.ensures

pub returns-then-not-is_empty-3 : goal.returns-then-not-is_empty-3
returns-then-not-is_empty-3 c =
    let s = c.args.view.now in
    let query = c.args.query.now in
    let order = (reached-view _ s _ c.view.view_is c.view.invariant).works.in_order in
    let some : (length query.tags == 0) ≡ false = search rules in
    let are = c.as_slice-then-not-is_empty-3-2.ensures ∙ c.in_ok-numbers-3.ensures
    ∙ ap (λ asked. numbers_in (filter (λ (work : Record). list_any (has_tag work.request.tags) asked) s.works)) c.as_slice-then-not-is_empty-3.ensures in
    IfOk-weaker c.told_of-then-not-is_empty-3.result _ _
    (λ told. answered s query (λ work. list_any (has_tag work.request.tags) query.tags) c.as_slice-then-not-is_empty-3-2.result.now told order are
    (covers-tags query s.works some))
    c.told_of-then-not-is_empty-3.ensures

pub told_among-requires : goal.told_among-requires
told_among-requires c =
    let s = c.args.view.now in
    let order = (reached-view _ s _ c.view.view_is c.view.invariant).works.in_order in
    let same : c.as_slice-works.result.now ≡ s.works = search rules in
    all-there c.as_slice-works.result.now s.works same order

pub returns : goal.returns
returns c =
    let s = c.args.view.now in
    let same : c.as_slice-works.result.now ≡ s.works = search rules in
    IfOk-weaker c.told_among.result _ _ (λ told. answered-all s c.args.query.now c.as_slice-works.result.now told same) c.told_among.ensures
