use Rattle.std.proofs.Common.{◌≡◌, ap, false, None, subst, sym, ◌∙◌}
use Rattle.std.proofs.lemmas.Result.{on_ok_weaker}
use Rattle.std.specs.Option.{option_copied}
use Rattle.wm_index.specs.Entries.{has_seq, with_entry}
use Rattle.wm_index.specs.Works.{entries_of, entry_of}
use Rattle.wm_index.proofs.Lists.{inserted}
use Rattle.wm_index.proofs.index.Index.prepare.Goals as goal

pub returns-clause-ok : goal.returns-clause-ok
returns-clause-ok c =
    let works = c.self.inside.works.entries in
    on_ok_weaker c.add_work.result
    (λ is. ap entries_of is
    ∙ inserted c.args.seq c.in_ok-work.work works (subst (λ entries. has_seq entries c.args.seq ≡ false) (sym c.self.view_is) c.requires)
    ∙ ap (λ kept. with_entry (entry_of (c.args.seq, kept)) (entries_of works)) c.in_ok-work.ensures
    ∙ ap (λ entries. with_entry (entry_of (c.args.seq, record { id = None; name = option_copied c.args.name; tags = c.args.tags.now })) entries) c.self.view_is)
    c.add_work.ensures.ok
