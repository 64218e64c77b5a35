use Rattle.std.proofs.Common.{ap, refl, sym, ◌∙◌}
use Rattle.wm_index.specs.Entries.{keeping_tags}
use Rattle.wm_index.specs.Groups.{has}
use Rattle.wm_index.specs.Works.{entries_of, keeping}
use Rattle.wm_index.proofs.Kepts.{changed-from, changed-list, untagged-kept}
use Rattle.wm_index.proofs.Lists.{none-changed, sorted-ascends}
use Rattle.wm_index.proofs.tagging.untag_work.Goals as goal

pub returns-in-Some-clause-kept : goal.returns-in-Some-clause-kept
returns-in-Some-clause-kept c ids names is =
    let found = sym c.in-Some.ensures.value in
    let new = c.get_mut.follows.lender c.keep.new.self in
    let changed = changed-from (keeping c.args.tags.now) c.args.seq c.in-Some.work.now c.keep.new.self c.args.works.now new found c.keep.ensures
    (c.get_mut.follows.holds c.keep.new.self) in
    untagged-kept c.args.seq c.args.works.now.entries new.entries ids names (has c.args.groups.now) is c.in-Some.work.now found c.args.tags.now
    (has c.leave_unkept.new.groups) changed (rw c.tags.ensures at c.leave_unkept.ensures)

pub returns-in-Some-clause-keeping : goal.returns-in-Some-clause-keeping
returns-in-Some-clause-keeping c =
    let found = sym c.in-Some.ensures.value in
    let new = c.get_mut.follows.lender c.keep.new.self in
    let changed = changed-from (keeping c.args.tags.now) c.args.seq c.in-Some.work.now c.keep.new.self c.args.works.now new found c.keep.ensures
    (c.get_mut.follows.holds c.keep.new.self) in
    changed-list (keeping c.args.tags.now) c.args.seq c.in-Some.work.now c.args.works.now.entries new.entries (keeping_tags c.args.tags.now) refl
    (sorted-ascends c.args.works.now.entries c.get_mut.ensures.ordered) found changed

pub returns-in_default-clause-keeping : goal.returns-in_default-clause-keeping
returns-in_default-clause-keeping c =
    ap (λ works. entries_of works.entries) c.get_mut.follows.holds-at-none
    ∙ sym (none-changed c.args.seq (keeping_tags c.args.tags.now) c.args.works.now.entries (sym (rw c.in_default.is at c.get_mut.ensures.value)))
