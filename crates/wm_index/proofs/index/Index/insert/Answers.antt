use Rattle.std.proofs.Common.{None, ap, option_map, refl, ◌∙◌}
use Rattle.std.specs.Option.{option_copied}
use Rattle.wm_index.specs.Entries.{by_id, changed_at, has_unidentified, identified, is_id, Entry}
use Rattle.wm_index.proofs.Lists.{placed-found, placed-identified, placed-there}
use Rattle.wm_index.proofs.index.Index.insert.Goals as goal

pub identify-requires-clause-unidentified : goal.identify-requires-clause-unidentified
identify-requires-clause-unidentified c =
    let entry : Entry = record { seq = c.args.seq; id = None; name = option_copied c.args.name; tags = c.args.tags.now } in
    ap (λ entries. has_unidentified entries c.args.seq) c.in_ok-prepare.ensures.ok ∙ placed-there entry refl c.args.self.now

pub identify-requires-clause-new_id : goal.identify-requires-clause-new_id
identify-requires-clause-new_id c =
    let entry : Entry = record { seq = c.args.seq; id = None; name = option_copied c.args.name; tags = c.args.tags.now } in
    ap (λ entries. by_id entries c.args.id) c.in_ok-prepare.ensures.ok
    ∙ ap (option_map (λ (one : Entry). one.seq)) (placed-found entry (λ one. is_id c.args.id one.id) refl c.args.self.now) ∙ c.requires.new_id

pub returns-clause-ok : goal.returns-clause-ok
returns-clause-ok c =
    let entry : Entry = record { seq = c.args.seq; id = None; name = option_copied c.args.name; tags = c.args.tags.now } in
    c.identify.ensures ∙ ap (λ entries. changed_at (identified c.args.id) c.args.seq entries) c.in_ok-prepare.ensures.ok
    ∙ placed-identified entry c.args.id c.args.self.now c.requires.new_seq
