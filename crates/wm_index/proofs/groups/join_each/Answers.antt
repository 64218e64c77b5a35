use Rattle.std.proofs.Common.{◌≡◌, subst, take, true, ◌∙◌}
use Rattle.std.specs.Str.{bytes_eq}
use Rattle.wm_index.specs.Entries.{has_tag}
use Rattle.wm_index.specs.Groups.{has}
use Rattle.wm_index.proofs.Tables.{joined-others, others-then, others-wider, tag-at, tag-front}
use Rattle.wm_index.proofs.groups.join_each.Goals as goal

pub returns-in_err-join-clause-others : goal.returns-in_err-join-clause-others
returns-in_err-join-clause-others c =
    let texts = c.args.texts.now in
    let i = c.loop-text.text-index in
    let old = has c.args.groups.now in
    let mid = has c.loop-text.groups in
    let new = has c.join.new.groups in
    let is = c.as_str.ensures ∙ c.text-item.is in
    others-then (has_tag texts) c.args.seq old mid new
    (others-wider (has_tag (take i texts)) (has_tag texts) c.args.seq old mid (λ text has. tag-front texts i text has)
    (joined-others (has_tag (take i texts)) c.args.seq old mid c.loop-text.invariant))
    (others-wider (bytes_eq c.as_str.result.now) (has_tag texts) c.args.seq mid new
    (λ text same. tag-at texts i c.text-item.result text c.loop-text-test.true (subst (λ one. bytes_eq one text ≡ true) is same)) c.join.ensures.others)
