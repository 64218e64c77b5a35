use Rattle.std.proofs.Common.{[], ap, refl, subst, sym, ◌∙◌}
use Rattle.std.specs.Option.{option_map_or}
use Rattle.wm_index.specs.Entries.{adding_tags, has_tag}
use Rattle.wm_index.specs.Groups.{has, IsJoined, IsParted, KeepsOthers}
use Rattle.wm_index.specs.Works.{missing_from, with_tags, IsChanged, IsKept}
use Rattle.wm_index.proofs.Founds.{err_given, missing-absent, ok_given}
use Rattle.wm_index.proofs.Kepts.{changed-list, tagged-kept, untouched-kept}
use Rattle.wm_index.proofs.Lists.{there-some}
use Rattle.wm_index.proofs.tagging.tag_work.Goals as goal

pub returns-then-is_err-clause-kept : goal.returns-then-is_err-clause-kept
returns-then-is_err-clause-kept c ids names is =
    let works = c.args.works.now.entries in
    let tags = c.args.tags.now in
    let old = has c.args.groups.now in
    let mid = has c.join_each.new.groups in
    let new = has c.leave_each.new.groups in
    let there = there-some c.args.seq works c.requires.there in
    let missing = c.in_ok-missing.ensures ∙ ap (λ found. option_map_or (missing_from tags) found []) there.1 in
    let begun = c.as_slice.ensures.value ∙ missing in
    let ended = c.as_slice-then-is_err.ensures.value ∙ missing in
    untouched-kept c.args.seq works works ids names old is there.0 there.1 (missing_from tags there.0) mid new
    (λ text has. missing-absent tags there.0.tags text has)
    (subst (λ more. KeepsOthers (has_tag more) c.args.seq old mid) begun c.join_each.ensures.others)
    (subst (λ more. IsParted (has_tag more) c.args.seq mid new) ended c.leave_each.ensures)

pub returns-then-is_err-2-clause-kept : goal.returns-then-is_err-2-clause-kept
returns-then-is_err-2-clause-kept c ids names is =
    let works = c.args.works.now.entries in
    let tags = c.args.tags.now in
    let old = has c.args.groups.now in
    let mid = has c.join_each.new.groups in
    let new = has c.leave_each-then-is_err-2.new.groups in
    let there = there-some c.args.seq works c.requires.there in
    let missing = c.in_ok-missing.ensures ∙ ap (λ found. option_map_or (missing_from tags) found []) there.1 in
    let refused = sym c.is_err-2.ensures.value ∙ c.if-is_err-2.true in
    let begun = c.as_slice.ensures.value ∙ missing in
    let ended = c.as_slice-then-is_err-2.ensures.value ∙ err_given c.append_to.result _ c.append_to.ensures.tags refused ∙ missing in
    subst (λ works. IsKept works ids names new) (sym (err_given c.append_to.result _ c.append_to.ensures.err refused))
    (untouched-kept c.args.seq works works ids names old is there.0 there.1 (missing_from tags there.0) mid new
    (λ text has. missing-absent tags there.0.tags text has)
    (subst (λ more. KeepsOthers (has_tag more) c.args.seq old mid) begun c.join_each.ensures.others)
    (subst (λ more. IsParted (has_tag more) c.args.seq mid new) ended c.leave_each-then-is_err-2.ensures))

pub returns-clause-kept : goal.returns-clause-kept
returns-clause-kept c ids names is =
    let works = c.args.works.now.entries in
    let there = there-some c.args.seq works c.requires.there in
    let more = c.in_ok-missing.missing.items in
    let changed = ok_given c.append_to.result (IsChanged (with_tags more) c.args.seq works c.append_to.new.works.entries) c.append_to.ensures.ok
    (sym c.is_err-2.ensures.value ∙ c.if-is_err-2.false) in
    let joined = ok_given c.join_each.result (IsJoined (has_tag c.as_slice.result.now) c.args.seq (has c.args.groups.now) (has c.join_each.new.groups)) c.join_each.ensures.ok
    (sym c.is_err.ensures.value ∙ c.if-is_err.false) in
    tagged-kept c.args.seq works c.append_to.new.works.entries ids names (has c.args.groups.now) is there.0 there.1 more (has c.join_each.new.groups) changed
    (subst (λ tags. IsJoined (has_tag tags) c.args.seq (has c.args.groups.now) (has c.join_each.new.groups)) c.as_slice.ensures.value joined)

pub returns-clause-ok : goal.returns-clause-ok
returns-clause-ok c =
    let works = c.args.works.now.entries in
    let tags = c.args.tags.now in
    let there = there-some c.args.seq works c.requires.there in
    let missing = c.in_ok-missing.ensures ∙ ap (λ found. option_map_or (missing_from tags) found []) there.1 in
    let changed = ok_given c.append_to.result (IsChanged (with_tags c.in_ok-missing.missing.items) c.args.seq works c.append_to.new.works.entries) c.append_to.ensures.ok
    (sym c.is_err-2.ensures.value ∙ c.if-is_err-2.false) in
    changed-list (with_tags (missing_from tags there.0)) c.args.seq there.0 works c.append_to.new.works.entries (adding_tags tags) refl c.requires.ascending there.1
    (subst (λ more. IsChanged (with_tags more) c.args.seq works c.append_to.new.works.entries) missing changed)
