use Rattle.std.proofs.Common.{◌≡◌, None, ap, refl, sym, ◌∙◌}
use Rattle.std.specs.Map.{lookup}
use Rattle.std.specs.Str.{bytes_eq}
use Rattle.wm_index.specs.Entries.{identified, is_id}
use Rattle.wm_index.specs.Groups.{ids_of}
use Rattle.wm_index.specs.Works.{entries_of, with_id}
use Rattle.wm_index.proofs.Founds.{ids-joined, ok_holds}
use Rattle.wm_index.proofs.Kepts.{changed-from, changed-list, identified-kept}
use Rattle.wm_index.proofs.Known.{has-none, has-room, known-identified, longer-by-one}
use Rattle.wm_index.proofs.Lists.{found-is, none-changed, sorted-ascends}
use Rattle.wm_index.proofs.adding.identify_work.Goals as goal

pub unwrap-before-requires : goal.unwrap-before-requires
unwrap-before-requires c =
    let works = c.args.works.now.entries in
    let found = sym c.in-Some.ensures.value in
    let lacks = has-none c.args.seq works c.in-Some.work.now found (sorted-ascends works c.get_mut.ensures.ordered) c.requires.there in
    c.insert.ensures.succeeds (has-room c.args.seq c.in-Some.work.now works works (ids_of c.args.ids.now) c.requires.ids found lacks)

pub returns-in-Some-clause-kept : goal.returns-in-Some-clause-kept
returns-in-Some-clause-kept c names tags is =
    let works = c.args.works.now.entries in
    let ids = c.args.ids.now.entries in
    let id = c.args.id in
    let found = sym c.in-Some.ensures.value in
    let up = sorted-ascends works c.get_mut.ensures.ordered in
    let lacks = has-none c.args.seq works c.in-Some.work.now found up c.requires.there in
    let new = c.get_mut.follows.lender c.identify.new.self in
    let changed = changed-from (with_id id) c.args.seq c.in-Some.work.now c.identify.new.self c.args.works.now new found c.identify.ensures
    (c.get_mut.follows.holds c.identify.new.self) in
    let absent : lookup (bytes_eq id) ids ≡ None =
    found-is (λ entry. is_id id entry.id) works (lookup (bytes_eq id) ids) up (λ number. c.requires.ids.found id number) ∙ c.requires.id in
    let fine = c.insert.ensures.succeeds (has-room c.args.seq c.in-Some.work.now works works (ids_of c.args.ids.now) c.requires.ids found lacks) in
    let updates = ok_holds c.insert.result _ c.insert.ensures.updates fine in
    let joined = ids-joined id c.args.seq ids c.insert.new.self.entries absent updates.0 in
    identified-kept c.args.seq works new.entries (ids_of c.args.ids.now) names tags is c.in-Some.work.now found id (ids_of c.insert.new.self) changed
    (known-identified c.args.seq c.in-Some.work.now works new.entries (ids_of c.args.ids.now) c.requires.ids found id (ids_of c.insert.new.self) lacks changed joined
    (longer-by-one c.insert.result _ _ _ absent fine c.insert.ensures.old c.insert.ensures.len) c.insert.ensures.spare)

pub returns-in-Some-clause-identified : goal.returns-in-Some-clause-identified
returns-in-Some-clause-identified c =
    let found = sym c.in-Some.ensures.value in
    let new = c.get_mut.follows.lender c.identify.new.self in
    let changed = changed-from (with_id c.args.id) c.args.seq c.in-Some.work.now c.identify.new.self c.args.works.now new found c.identify.ensures
    (c.get_mut.follows.holds c.identify.new.self) in
    changed-list (with_id c.args.id) c.args.seq c.in-Some.work.now c.args.works.now.entries new.entries (identified c.args.id) refl
    (sorted-ascends c.args.works.now.entries c.get_mut.ensures.ordered) found changed

pub returns-in_default-clause-identified : goal.returns-in_default-clause-identified
returns-in_default-clause-identified c =
    ap (λ works. entries_of works.entries) c.get_mut.follows.holds-at-none
    ∙ sym (none-changed c.args.seq (identified c.args.id) c.args.works.now.entries (sym (rw c.in_default.is at c.get_mut.ensures.value)))
