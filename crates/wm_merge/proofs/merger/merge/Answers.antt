-- What has grown of all inputs.
use Rattle.std.proofs.Common.{◌≡◌, take_all}
use Rattle.wm_merge.specs.Merged.{answer_of, merged}
use Rattle.wm_merge.proofs.Merges.{merged-grown}
use Rattle.wm_merge.proofs.merger.merge.Goals as goal

merged_is : (c : goal.After-build) → merged c.args.how c.args.inputs.now ≡ answer_of c.loop-input.merging.conflict c.loop-input.merging.entries
merged_is c =
    merged-grown c.args.how c.args.inputs.now c.loop-input.merging
    (rw (take_all c.loop-input.input-index c.args.inputs.now c.loop-input-test.false) at c.loop-input.invariant)

pub returns-clause-ok : goal.returns-clause-ok
returns-clause-ok c = rw (merged_is c) c.build.ensures.ok

pub returns-clause-err : goal.returns-clause-err
returns-clause-err c = rw (merged_is c) c.build.ensures.err
