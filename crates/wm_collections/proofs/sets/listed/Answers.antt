use Rattle.wm_collections.proofs.NumberSets.{list-all, list-is}
use Rattle.wm_collections.proofs.sets.listed.Goals as goal

pub returns : goal.returns
returns c =
    let given = c.into_iter-number-iterator.ensures.into_iter_gives in
    list-is c.args.numbers.now c.loop-number.list.items given.4
    (list-all c.args.numbers.now c.loop-number.yielded c.loop-number.number-iterator c.into_iter-number-iterator.result c.loop-number.list.items
    c.loop-number.invariant.split given.0 c.in-None.ensures.steps.0 c.loop-number.invariant.list)
