use Rattle.std.proofs.Common.{sym, ◌∙◌}
use Rattle.std.proofs.lemmas.Bool.{not-false, not-true}
use Rattle.wm_chain.proofs.Walks.{again-here, again-on, more-seen}
use Rattle.wm_chain.proofs.batching.again.Goals as goal

pub returns-then-not-branch : goal.returns-then-not-branch
returns-then-not-branch c =
    let id = c.id-item.result in
    let kept = c.loop-id.invariant in
    let stood = sym (kept.seen id) ∙ not-false _ (sym c.in_ok-insert.ensures.added ∙ c.if-not-branch.true) in
    again-here c.args.ids.now c.loop-id.id-index id c.loop-id-test.true c.id-item.is kept.found stood

pub loop-id-preserved : goal.loop-id-preserved
loop-id-preserved c =
    let id = c.id-item.result in
    let kept = c.loop-id.invariant in
    let new = sym (kept.seen id) ∙ not-true _ (sym c.in_ok-insert.ensures.added ∙ c.if-not-branch.false) in
    record {
      seen = λ other. c.in_ok-insert.ensures.updates.0 other
          ∙ more-seen c.args.ids.now c.loop-id.id-index id c.loop-id-test.true c.id-item.is other _ (kept.seen other);
      found = again-on c.args.ids.now c.loop-id.id-index id c.loop-id-test.true c.id-item.is kept.found new;
    }
