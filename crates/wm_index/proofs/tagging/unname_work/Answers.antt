use Rattle.std.proofs.Common.{ap, refl, sym, ◌∙◌}
use Rattle.wm_index.specs.Entries.{unnamed}
use Rattle.wm_index.specs.Groups.{has}
use Rattle.wm_index.specs.Works.{entries_of, nameless}
use Rattle.wm_index.proofs.Kepts.{changed-from, changed-list, unnamed-kept}
use Rattle.wm_index.proofs.Lists.{none-changed, sorted-ascends}
use Rattle.wm_index.proofs.tagging.unname_work.Goals as goal

pub returns-in-Some-clause-kept : goal.returns-in-Some-clause-kept
returns-in-Some-clause-kept c ids tags is =
    let found = sym c.in-Some.ensures.value in
    let new = c.get_mut.follows.lender c.unname.new.self in
    let changed = changed-from nameless c.args.seq c.in-Some.work.now c.unname.new.self c.args.works.now new found c.unname.ensures
    (c.get_mut.follows.holds c.unname.new.self) in
    unnamed-kept c.args.seq c.args.works.now.entries new.entries ids (has c.args.names.now) tags is c.in-Some.work.now found (has c.leave_name.new.names) changed
    c.leave_name.ensures

pub returns-in-Some-clause-unnamed : goal.returns-in-Some-clause-unnamed
returns-in-Some-clause-unnamed c =
    let found = sym c.in-Some.ensures.value in
    let new = c.get_mut.follows.lender c.unname.new.self in
    let changed = changed-from nameless c.args.seq c.in-Some.work.now c.unname.new.self c.args.works.now new found c.unname.ensures
    (c.get_mut.follows.holds c.unname.new.self) in
    changed-list nameless c.args.seq c.in-Some.work.now c.args.works.now.entries new.entries unnamed refl
    (sorted-ascends c.args.works.now.entries c.get_mut.ensures.ordered) found changed

pub returns-in_default-clause-unnamed : goal.returns-in_default-clause-unnamed
returns-in_default-clause-unnamed c =
    ap (λ works. entries_of works.entries) c.get_mut.follows.holds-at-none
    ∙ sym (none-changed c.args.seq unnamed c.args.works.now.entries (sym (rw c.in_default.is at c.get_mut.ensures.value)))
