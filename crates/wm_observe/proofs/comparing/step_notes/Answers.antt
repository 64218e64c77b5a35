use Rattle.std.proofs.Common.{◌≡◌, rules}
use Rattle.wm_steps.proofs.Views.{reached-view}
use Rattle.wm_observe.proofs.ComparedPairs.{compared-told}
use Rattle.wm_observe.specs.Compared.{compared_pairs}
use Rattle.wm_observe.proofs.comparing.step_notes.Goals as goal

pub returns : goal.returns
returns c =
    let s = c.args.view.now in
    let change = c.args.change.now in
    let reached = reached-view _ s _ c.view.view_is c.view.invariant in
    let observers : c.as_slice-observers.result.now ≡ s.observers = search rules in
    let pairs : c.as_slice.result.now ≡ compared_pairs change s = search rules in
    rw (observers, pairs, compared-told s change reached c.requires.fits) at c.notes.ensures
