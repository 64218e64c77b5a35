use Rattle.std.proofs.Common.{ap, refl, Some, sym, true, ◌∙◌}
use Rattle.wm_leases.specs.Ends.{ends_at}
use Rattle.wm_leases.specs.Leases.{made_told}
use Rattle.wm_leases.specs.Terms.{end_of, leases_in}
use Rattle.wm_leases.specs.declared.terms.Term.{Term}
use Rattle.wm_leases.proofs.Moves.{end-same}
use Rattle.wm_leases.proofs.Lists.{kept-moved, none-changed, set-changed, sorted-ascends}
use Rattle.wm_leases.proofs.terms.tell_term.Goals as goal

pub returns-in-Some-clause-kept : goal.returns-in-Some-clause-kept
returns-in-Some-clause-kept c ends kept =
    let found = sym c.in-Some.ensures.value in
    let term : Term = record { end = c.in-Some.term.now.end; told = true } in
    let new = c.get_mut.follows.lender term in
    let writes = c.get_mut.follows.holds term in
    let updates = writes.3 (rw found refl) in
    kept-moved c.args.run (Some term) c.args.terms.now.entries new.entries ends ends kept updates.0 (sorted-ascends new.entries writes.4)
    (end-same c.args.run c.in-Some.term.now.end ends (λ at. kept.ends_are at c.args.run ∙ ap (λ one. ends_at at (end_of one)) found))

pub returns-in-Some-clause-told : goal.returns-in-Some-clause-told
returns-in-Some-clause-told c =
    let term : Term = record { end = c.in-Some.term.now.end; told = true } in
    ap leases_in (c.get_mut.follows.holds term).0
    ∙ set-changed c.args.run made_told c.in-Some.term.now term refl c.args.terms.now.entries (sorted-ascends c.args.terms.now.entries c.get_mut.ensures.ordered)
    (sym c.in-Some.ensures.value)

pub returns-in_default-clause-told : goal.returns-in_default-clause-told
returns-in_default-clause-told c =
    ap (λ terms. leases_in terms.entries) c.get_mut.follows.holds-at-none
    ∙ sym (none-changed c.args.run made_told c.args.terms.now.entries (sym (rw c.in_default.is at c.get_mut.ensures.value)))
