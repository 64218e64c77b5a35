use Rattle.std.proofs.Common.{◌∙◌}
use Rattle.wm_observe.proofs.AddedPairs.{pairs-all, pairs-on, split-on}
use Rattle.wm_observe.proofs.comparing.add_old.Goals as goal
use Rattle.wm_observe.specs.Compared.{pair_at}
use Rattle.wm_steps.proofs.Views.{reached-view}
use Rattle.wm_changes.specs.StepChanges.{changed_state}

pub loop-number-preserved : goal.loop-number-preserved
loop-number-preserved c =
    let s = c.args.view.now in
    let change = c.args.change.now in
    record {
      split = split-on c.loop-number.yielded c.in-Some.number _ _ _ c.loop-number.invariant.split c.in-Some.ensures.steps;
      pairs = pairs-on (pair_at change s.works (changed_state change s).works) s.works c.args.pairs.now c.loop-number.pairs _ c.loop-number.yielded c.in-Some.number
          c.loop-number.invariant.pairs c.in_ok-add_numbered.ensures;
    }

pub returns : goal.returns
returns c =
    let s = c.args.view.now in
    let change = c.args.change.now in
    let given = c.into_iter-number-iterator.ensures.into_iter_gives in
    c.loop-number.invariant.pairs
    ∙ pairs-all s change (reached-view _ s _ c.view.view_is c.view.invariant) c.args.numbers.now c.requires.numbers given.4 c.args.pairs.now c.loop-number.yielded
    c.loop-number.number-iterator c.into_iter-number-iterator.result c.loop-number.invariant.split given.0 c.in-None.ensures.steps.0
