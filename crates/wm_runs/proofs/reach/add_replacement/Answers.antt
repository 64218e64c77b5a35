use Rattle.std.proofs.Common.{◌≡◌, false, is_some, None, Some, slice_get, rules}
use Rattle.wm_machine.specs.Input.{work_numbered}
use Rattle.wm_runs.proofs.Touched.{added-none, added-some, replacement-some, replacement-stays}
use Rattle.wm_runs.specs.Reached.{change_by}
use Rattle.wm_steps.proofs.ByNumbers.{replacement-none}
use Rattle.wm_steps.proofs.Views.{reached-view}
use Rattle.wm_runs.proofs.reach.add_replacement.Goals as goal

pub returns-in_default : goal.returns-in_default
returns-in_default c =
    let works = c.args.view.now.works in
    let none : work_numbered c.args.number works ≡ None = search rules in
    added-none c.args.replaced.now _ (replacement-none (change_by c.args.itself.now c.args.reach.now) c.args.number 0 works none)

pub returns-in_ok-push : goal.returns-in_ok-push
returns-in_ok-push c =
    let works = c.args.view.now.works in
    let order = (reached-view _ c.args.view.now _ c.view.view_is c.view.invariant).works.in_order in
    let change = change_by c.args.itself.now c.args.reach.now in
    let index = c.in-Some.index in
    let work = c.work_at-work.result.now in
    let found : work_numbered c.args.number works ≡ slice_get works index = search rules in
    let there : slice_get works index ≡ Some work = search rules in
    let becomes : change work ≡ Some c.in_ok-work.work = search rules in
    added-some c.args.replaced.now c.push.new.self _ (record { index = index; work = c.in_ok-work.work }) c.in_ok-push.ensures.ok
    (replacement-some change c.args.number works index work c.in_ok-work.work order found there becomes)

pub returns-else-is_changed : goal.returns-else-is_changed
returns-else-is_changed c =
    let works = c.args.view.now.works in
    let order = (reached-view _ c.args.view.now _ c.view.view_is c.view.invariant).works.in_order in
    let change = change_by c.args.itself.now c.args.reach.now in
    let index = c.in-Some.index in
    let work = c.work_at-work.result.now in
    let found : work_numbered c.args.number works ≡ slice_get works index = search rules in
    let there : slice_get works index ≡ Some work = search rules in
    let stays : is_some (change work) ≡ false = search rules in
    added-none c.args.replaced.now _ (replacement-stays change c.args.number works index work order found there stays)
