use Rattle.std.proofs.Common.{ap, length, sym, refl, ◌≤◌, ◌+◌, ◌∙◌}
use Rattle.indexmap.specs.IndexMap.{spare}
use Rattle.wm_index.specs.Entries.{has_tag, is_name}
use Rattle.wm_index.specs.Groups.{has, has_id, ids_of, IsJoined}
use Rattle.wm_index.proofs.Founds.{ok_given}
use Rattle.wm_index.proofs.Kepts.{added-kept, undone, with-ids}
use Rattle.wm_index.proofs.Known.{enough, known-added, known-few, known-roomier, longer-by-one}
use Rattle.wm_index.proofs.Lists.{absent-none, sorted-ascends}
use Rattle.wm_index.proofs.adding.add_work.Goals as goal

pub returns-in_err-reserve-clause-kept : goal.returns-in_err-reserve-clause-kept
returns-in_err-reserve-clause-kept c =
    let reserved = c.reserve.ensures in
    with-ids c.args.works.now.entries (ids_of c.args.ids.now) (ids_of c.reserve.new.self) (has c.args.names.now) (has c.args.tags.now) c.requires.kept
    (ap has_id reserved.entries) (ap length reserved.entries) reserved.room.0

pub returns-then-is_err-clause-kept : goal.returns-then-is_err-clause-kept
returns-then-is_err-clause-kept c =
    let works = c.args.works.now.entries in
    let reserved = c.in_ok-reserve.ensures in
    undone c.args.seq works works (ids_of c.args.ids.now) (has c.args.names.now) (has c.args.tags.now) c.requires.kept c.args.work
    (absent-none c.args.seq works c.requires.seq) (ids_of c.reserve.new.self) (has c.link.new.names) (has c.unlink.new.names) (has c.link.new.tags) (has c.unlink.new.tags)
    (known-roomier works (ids_of c.args.ids.now) (ids_of c.reserve.new.self) c.requires.kept.ids_are (ap has_id reserved.entries) (ap length reserved.entries) reserved.room.0)
    c.link.ensures.other_names c.unlink.ensures.names
    c.link.ensures.other_tags c.unlink.ensures.tags

pub returns-in-Ok-clause-kept : goal.returns-in-Ok-clause-kept
returns-in-Ok-clause-kept c =
    let works = c.args.works.now.entries in
    let new = c.insert.new.self.entries in
    let kept = c.requires.kept in
    let reserved = c.in_ok-reserve.ensures in
    let none = absent-none c.args.seq works c.requires.seq in
    let fine = sym c.is_err.ensures.value ∙ c.if-is_err.false in
    let names = ok_given c.link.result (IsJoined (λ name. is_name name c.args.work.name) c.args.seq (has c.args.names.now) (has c.link.new.names))
    c.link.ensures.names fine in
    let tags = ok_given c.link.result (IsJoined (has_tag c.args.work.tags) c.args.seq (has c.args.tags.now) (has c.link.new.tags))
    c.link.ensures.tags fine in
    let longer = longer-by-one c.insert.result _ (length works) (length new) none (rw c.in-Ok.is refl) c.insert.ensures.old c.insert.ensures.len in
    let room : length works + 1 ≤ length c.args.ids.now.entries + spare c.reserve.new.self =
    enough (length works) (length c.args.ids.now.entries) (spare c.reserve.new.self) (known-few works (ids_of c.args.ids.now) kept.ids_are) (rw (c.len.ensures.len, c.len-2.ensures.len) at reserved.ok) in
    let known = known-added c.args.seq c.args.work works new (ids_of c.args.ids.now) kept.ids_are (ids_of c.reserve.new.self) none c.requires.id
    c.in-Ok.ensures.updates.0 c.insert.ensures.was_ordered c.in-Ok.ensures.entries longer (ap has_id reserved.entries) (ap length reserved.entries) room in
    added-kept c.args.seq works new (ids_of c.args.ids.now) (has c.args.names.now) (has c.args.tags.now) kept c.args.work none
    (ids_of c.reserve.new.self) (has c.link.new.names) (has c.link.new.tags)
    (sorted-ascends new c.in-Ok.ensures.ordered) c.in-Ok.ensures.updates.0 known names tags
