use Rattle.std.proofs.Common.{false, ap, sym, ◌∙◌}
use Rattle.std.specs.Option.{option_map_or}
use Rattle.wm_index.specs.Groups.{has, has_id, ids_of}
use Rattle.wm_index.specs.Works.{entries_of}
use Rattle.wm_index.proofs.Kepts.{removed-kept}
use Rattle.wm_index.proofs.Known.{id_is, known-removed, own-known}
use Rattle.wm_index.proofs.Lists.{removed, sorted-ascends}
use Rattle.wm_index.proofs.adding.remove_work.Goals as goal

pub leave_id-requires : goal.leave_id-requires
leave_id-requires c =
    own-known c.in-Some.work.id (has_id c.args.ids.now.entries) c.args.seq
    (λ id. c.requires.kept.ids_are.found id c.args.seq ∙ ap (λ found. option_map_or (id_is id) found false) (sym c.in-Some.ensures.value))

pub returns-in-Some-clause-kept : goal.returns-in-Some-clause-kept
returns-in-Some-clause-kept c =
    let works = c.args.works.now.entries in
    let kept = c.requires.kept in
    let work = c.in-Some.work in
    let found = sym c.in-Some.ensures.value in
    let known = known-removed c.args.seq work works c.remove.new.self.entries (ids_of c.args.ids.now) kept.ids_are found (ids_of c.leave_id.new.ids)
    c.remove.ensures.updates.0 c.remove.ensures.entries (rw c.in-Some.is at c.remove.ensures.len) c.leave_id.ensures.parted c.leave_id.ensures.known c.leave_id.ensures.room in
    removed-kept c.args.seq works c.remove.new.self.entries (ids_of c.args.ids.now) (has c.args.names.now) (has c.args.tags.now) kept work found
    (ids_of c.leave_id.new.ids) (has c.unlink.new.names) (has c.unlink.new.tags) (sorted-ascends c.remove.new.self.entries c.remove.ensures.ordered)
    c.remove.ensures.updates.0 known c.unlink.ensures.names c.unlink.ensures.tags

pub returns-in-Some-clause-without : goal.returns-in-Some-clause-without
returns-in-Some-clause-without c = ap entries_of c.remove.ensures.entries ∙ removed c.args.seq c.args.works.now.entries c.requires.kept.ascending

pub returns-in_default-clause-without : goal.returns-in_default-clause-without
returns-in_default-clause-without c = ap entries_of c.remove.ensures.entries ∙ removed c.args.seq c.args.works.now.entries c.requires.kept.ascending
