use Rattle.std.proofs.Common.{◌&&◌, ap, get_or, not, subst, sym, take, ◌+◌, ◌∙◌}
use Rattle.std.specs.Str.{bytes_eq}
use Rattle.wm_index.specs.Entries.{has_tag}
use Rattle.wm_index.specs.Groups.{has, IsParted}
use Rattle.wm_index.proofs.Tables.{kept-more, parted-same, parted-then, unkept-more}
use Rattle.wm_index.proofs.tagging.leave_unkept.Goals.{then-not-has_tag, else-not-has_tag}
use Rattle.wm_index.proofs.tagging.leave_unkept.Goals as goal

pub loop-tag-preserved : goal.loop-tag-preserved
loop-tag-preserved c =
    let own = c.args.own.now in
    let tags = c.args.tags.now in
    let i = c.loop-tag.tag-index in
    let d = c.tag-item.result in
    let old = has c.args.groups.now in
    let mid = has c.loop-tag.groups in
    elim c.if-not-has_tag.branch [
      | then-not-has_tag w ↦
          (let others = ap (has_tag tags) (sym c.tag-item.is) ∙ sym c.has_tag.ensures ∙ w.if-not-has_tag.true in
          let is = w.as_str.ensures ∙ c.tag-item.is in
          rw w.groups-is
          (parted-then (λ text. has_tag (take i own) text && not (has_tag tags text)) (bytes_eq (get_or own i d)) (λ text. has_tag (take (i + 1) own) text && not (has_tag tags text))
          c.args.seq old mid (has w.leave.new.groups) (unkept-more own tags i d c.loop-tag-test.true others) c.loop-tag.invariant
          (subst (λ text. IsParted (bytes_eq text) c.args.seq mid (has w.leave.new.groups)) is w.leave.ensures)))
      | else-not-has_tag w ↦
          (let kept = ap (has_tag tags) (sym c.tag-item.is) ∙ sym c.has_tag.ensures ∙ w.if-not-has_tag.false in
          rw w.groups-is
          (parted-same (λ text. has_tag (take i own) text && not (has_tag tags text)) (λ text. has_tag (take (i + 1) own) text && not (has_tag tags text))
          c.args.seq old mid (kept-more own tags i d c.loop-tag-test.true kept) c.loop-tag.invariant))
    ]
