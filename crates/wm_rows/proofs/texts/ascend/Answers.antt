use Rattle.std.proofs.Common.{◌-◌, drop, sym, ◌∙◌, arith}
use Rattle.std.proofs.lemmas.List.{length-drop}
use Rattle.wm_rows.proofs.Tags.{ascend-few}
use Rattle.wm_rows.proofs.texts.ascend.Goals as goal

pub returns : goal.returns
returns c =
    let tags = c.args.tags.now in
    let left = drop (c.loop-index.index - 1) tags in
    let few = length-drop (c.loop-index.index - 1) tags in
    sym (ascend-few left (omega (arith, few, c.loop-index-test.false, c.loop-index.auto.index-end))) ∙ c.loop-index.invariant
