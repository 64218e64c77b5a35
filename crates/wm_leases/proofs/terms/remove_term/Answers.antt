use Rattle.std.proofs.Common.{ap, None, sym, ◌∙◌}
use Rattle.wm_leases.specs.Ends.{ends_at, has_end}
use Rattle.wm_leases.specs.Terms.{end_of, leases_in}
use Rattle.wm_leases.proofs.Moves.{end-gone}
use Rattle.wm_leases.proofs.Lists.{kept-moved, removed, sorted-ascends}
use Rattle.wm_leases.proofs.terms.remove_term.Goals as goal

pub returns-in-Some-clause-kept : goal.returns-in-Some-clause-kept
returns-in-Some-clause-kept c =
    let ends = has_end c.args.ends.now in
    let new = c.remove.new.self.entries in
    let found = sym c.in-Some.ensures.value in
    kept-moved c.args.run None c.args.terms.now.entries new ends (has_end c.forget_end.new.ends) c.requires.kept c.remove.ensures.updates.0
    (sorted-ascends new c.remove.ensures.ordered)
    (end-gone c.args.run c.in-Some.term.end ends (has_end c.forget_end.new.ends)
    (λ at. c.requires.kept.ends_are at c.args.run ∙ ap (λ term. ends_at at (end_of term)) found) c.forget_end.ensures)

pub returns-in-Some-clause-without : goal.returns-in-Some-clause-without
returns-in-Some-clause-without c = ap leases_in c.remove.ensures.entries ∙ removed c.args.run c.args.terms.now.entries c.requires.kept.ascending

pub returns-in_default-clause-without : goal.returns-in_default-clause-without
returns-in_default-clause-without c = ap leases_in c.remove.ensures.entries ∙ removed c.args.run c.args.terms.now.entries c.requires.kept.ascending
