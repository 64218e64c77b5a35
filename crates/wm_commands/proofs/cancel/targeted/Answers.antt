use Rattle.std.proofs.Common.{◌≡◌, ℕ, ◌&&◌, Bool, List, [], ◌∷◌, filter, rules, refl, sym, ap, subst, ◌∙◌}
use Rattle.std.proofs.lemmas.Result.{IfOk-weaker}
use Rattle.wm_collections.specs.Lists.{AllLater}
use Rattle.wm_commands.proofs.IndexedWorks.{are-numbers, open-found}
use Rattle.wm_machine.specs.Cancelled.{targeted}
use Rattle.wm_machine.specs.Group.{is_name, numbers_in}
use Rattle.wm_machine.specs.Plan.{is_unfinished}
use Rattle.wm_machine.specs.Queried.{has_tag}
use Rattle.wm_machine.specs.Valid.{IsBefore}
use Rattle.wm_machine.specs.declared.command.Target.{Target}
use Rattle.wm_machine.specs.declared.command.Target.TheVariants as target
use Rattle.wm_machine.specs.declared.record.Record.{Record}
use Rattle.wm_steps.proofs.IdNumbers.{has_id, id-none, id-number}
use Rattle.wm_steps.proofs.Views.{reached-view}
use Rattle.wm_unique.specs.Plans.{grouped, AreNumbersOf}
use Rattle.wm_commands.proofs.cancel.targeted.Goals as goal

-- of no numbers there is no work
none-open : (works : List Record) → [] ≡ numbers_in (filter is_unfinished (grouped works []))
none-open [] = refl
none-open (work ∷ works) = none-open works

-- works that stand in the view have the numbers of those that pass a test
numbers-of : (test : Record → Bool) (works all : List Record) (numbers : List ℕ) → works ≡ all → AllLater IsBefore all → numbers ≡ numbers_in (filter test all)
    → AreNumbersOf works numbers
numbers-of test works all numbers same order are = subst (λ (ws : List Record). AreNumbersOf ws numbers) (sym same) (are-numbers test all numbers order are)

-- and the unfinished ones are those of the target whose test that is
open-of : (test : Record → Bool) (to asked : Target) (works all : List Record) (numbers found : List ℕ) → works ≡ all → AllLater IsBefore all
    → numbers ≡ numbers_in (filter test all) → asked ≡ to
    → numbers_in (filter (λ work. is_unfinished work && test work) all) ≡ targeted to all
    → found ≡ numbers_in (filter is_unfinished (grouped works numbers)) → found ≡ targeted asked all
open-of test to asked works all numbers found same order are is meant found_is =
    found_is ∙ ap (λ (ws : List Record). numbers_in (filter is_unfinished (grouped ws numbers))) same ∙ open-found test all numbers order are ∙ meant
    ∙ ap (λ t. targeted t all) (sym is)

pub unfinished-requires-clause-group : goal.unfinished-requires-clause-group
unfinished-requires-clause-group c =
    let s = c.args.view.now in
    let works : c.as_slice-works.result.now ≡ s.works = search rules in
    let order = (reached-view _ s _ c.view.view_is c.view.invariant).works.in_order in
    numbers-of (has_id c.in-Id.id) c.as_slice-works.result.now s.works (c.in-Some.number ∷ []) works order (id-number s.works c.in-Id.id c.in-Some.number order (sym c.in-Some.is ∙ c.number_of.ensures))

pub unfinished-requires-in-Tag-clause-group : goal.unfinished-requires-in-Tag-clause-group
unfinished-requires-in-Tag-clause-group c =
    let s = c.args.view.now in
    let works : c.as_slice-works.result.now ≡ s.works = search rules in
    let order = (reached-view _ s _ c.view.view_is c.view.invariant).works.in_order in
    numbers-of (λ work. has_tag work.request.tags c.in-Tag.tag) c.as_slice-works.result.now s.works c.tagged.result.now works order c.tagged.ensures

pub unfinished-requires-in-Name-clause-group : goal.unfinished-requires-in-Name-clause-group
unfinished-requires-in-Name-clause-group c =
    let s = c.args.view.now in
    let works : c.as_slice-works.result.now ≡ s.works = search rules in
    let order = (reached-view _ s _ c.view.view_is c.view.invariant).works.in_order in
    numbers-of (λ work. is_name c.in-Name.name work.name) c.as_slice-works.result.now s.works c.members.result.now works order c.members.ensures

pub returns-in-Some : goal.returns-in-Some
returns-in-Some c =
    let s = c.args.view.now in
    let works : c.as_slice-works.result.now ≡ s.works = search rules in
    let order = (reached-view _ s _ c.view.view_is c.view.invariant).works.in_order in
    IfOk-weaker c.unfinished.result (λ found. found ≡ numbers_in (filter is_unfinished (grouped c.as_slice-works.result.now (c.in-Some.number ∷ []))))
    (λ found. found ≡ targeted c.args.target.now s.works)
    (λ found is. open-of (has_id c.in-Id.id) (target.Id c.in-Id.id) c.args.target.now c.as_slice-works.result.now s.works (c.in-Some.number ∷ []) found works order (id-number s.works c.in-Id.id c.in-Some.number order (sym c.in-Some.is ∙ c.number_of.ensures)) c.in-Id.is refl is)
    c.unfinished.ensures

pub returns-in-None : goal.returns-in-None
returns-in-None c =
    let s = c.args.view.now in
    let works : c.as_slice-works.result.now ≡ s.works = search rules in
    let order = (reached-view _ s _ c.view.view_is c.view.invariant).works.in_order in
    c.new.ensures
    ∙ open-of (has_id c.in-Id.id) (target.Id c.in-Id.id) c.args.target.now s.works s.works [] [] refl order
    (id-none s.works c.in-Id.id order (sym c.in-None.is ∙ c.number_of.ensures)) c.in-Id.is refl (none-open s.works)

pub returns-in-Tag : goal.returns-in-Tag
returns-in-Tag c =
    let s = c.args.view.now in
    let works : c.as_slice-works.result.now ≡ s.works = search rules in
    let order = (reached-view _ s _ c.view.view_is c.view.invariant).works.in_order in
    IfOk-weaker c.unfinished-in-Tag.result (λ found. found ≡ numbers_in (filter is_unfinished (grouped c.as_slice-works.result.now c.tagged.result.now)))
    (λ found. found ≡ targeted c.args.target.now s.works)
    (λ found is. open-of (λ work. has_tag work.request.tags c.in-Tag.tag) (target.Tag c.in-Tag.tag) c.args.target.now c.as_slice-works.result.now s.works c.tagged.result.now found works order c.tagged.ensures c.in-Tag.is refl is)
    c.unfinished-in-Tag.ensures

pub returns-in-Name : goal.returns-in-Name
returns-in-Name c =
    let s = c.args.view.now in
    let works : c.as_slice-works.result.now ≡ s.works = search rules in
    let order = (reached-view _ s _ c.view.view_is c.view.invariant).works.in_order in
    IfOk-weaker c.unfinished-in-Name.result (λ found. found ≡ numbers_in (filter is_unfinished (grouped c.as_slice-works.result.now c.members.result.now)))
    (λ found. found ≡ targeted c.args.target.now s.works)
    (λ found is. open-of (λ work. is_name c.in-Name.name work.name) (target.Name c.in-Name.name) c.args.target.now c.as_slice-works.result.now s.works c.members.result.now found works order c.members.ensures c.in-Name.is refl is)
    c.unfinished-in-Name.ensures
