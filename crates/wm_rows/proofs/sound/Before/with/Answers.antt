use Rattle.std.proofs.Common.{true, nat_cmp, subst, rules}
use Rattle.std.specs.BTreeSet.{Updates}
use Rattle.std.specs.Cmp.Lexicographic.{slice_cmp}
use Rattle.wm_rows.proofs.KeptMore.{kept-more}
use Rattle.wm_rows.proofs.sound.Before.with.Goals as goal

pub invariant_of-self : goal.invariant_of-self
invariant_of-self c =
    let inside = c.self.inside in
    let works = inside.works.items in
    let with_id = subst (λ id. Updates (slice_cmp nat_cmp) inside.ids c.insert.new.self id true) c.id.ensures c.in_ok-insert.ensures.updates in
    rw (c.in_ok-push.ensures.items) (kept-more works c.args.work inside.ids c.insert.new.self inside.names c.note.new.names inside.periodic c.note-2.new.names
    c.self.invariant (search rules) with_id c.in_ok-note.ensures (search rules))
