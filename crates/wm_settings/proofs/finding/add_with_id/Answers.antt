use Rattle.std.proofs.Common.{sym, ◌∙◌, subst}
use Rattle.std.proofs.Math.Bool.{or-false}
use Rattle.wm_collections.specs.Sets.{has_number, AreAdded}
use Rattle.wm_settings.proofs.FoundNumbers.{ids-swap}
use Rattle.wm_steps.proofs.IdNumbers.{id-none, id-number}
use Rattle.wm_collections.proofs.NumberSets.{added-one}
use Rattle.wm_steps.proofs.Views.{reached-view}
use Rattle.wm_settings.proofs.finding.add_with_id.Goals as goal

pub returns : goal.returns
returns c =
    let s = c.args.view.now in
    let order = (reached-view _ s _ c.view.view_is c.view.invariant).works.in_order in
    subst (λ ns. AreAdded ns c.args.numbers.now c.insert.new.self)
    (id-number s.works c.args.id c.in-Some.number order (sym c.in-Some.is ∙ c.number_of.ensures) ∙ ids-swap s.works c.args.id)
    (added-one c.args.numbers.now c.insert.new.self c.in-Some.number c.in_ok-insert.ensures.updates)

pub returns-in_default : goal.returns-in_default
returns-in_default c =
    let s = c.args.view.now in
    let order = (reached-view _ s _ c.view.view_is c.view.invariant).works.in_order in
    let numbers = c.args.numbers.now in
    subst (λ ns. AreAdded ns numbers numbers) (id-none s.works c.args.id order (sym c.in_default.is ∙ c.number_of.ensures) ∙ ids-swap s.works c.args.id)
    (λ number. sym (or-false (has_number numbers number)))
