use Rattle.std.proofs.Common.{ap, refl, Some, subst, sym, ◌∙◌}
use Rattle.std.proofs.lemmas.Map.Steps.{set_value_same}
use Rattle.std.specs.BTreeMap.{is_at}
use Rattle.std.specs.Ordering.{nat_cmp}
use Rattle.wm_leases.specs.Ends.{has_end}
use Rattle.wm_leases.specs.Leases.{renewed}
use Rattle.wm_leases.specs.Terms.{leases_in, IsKept}
use Rattle.wm_leases.specs.declared.terms.Term.{Term}
use Rattle.wm_leases.proofs.Lists.{kept-moved, none-changed, on_err, set-changed, sorted-ascends}
use Rattle.wm_leases.proofs.terms.renew_term.Goals as goal

pub returns-in_err-move_end-clause-kept : goal.returns-in_err-move_end-clause-kept
returns-in_err-move_end-clause-kept c =
    let same = (c.get_mut.follows.holds c.in-Some.term.now).0
    ∙ set_value_same (is_at (nat_cmp c.args.run)) c.args.terms.now.entries c.in-Some.term.now (sym c.in-Some.ensures.value) in
    subst (λ terms. IsKept terms (has_end c.move_end.new.ends)) (sym same)
    (subst (λ ends. IsKept c.args.terms.now.entries (has_end ends)) (sym c.in_err-move_end.ensures.err) c.requires.kept)

pub returns-in_err-move_end-clause-err : goal.returns-in_err-move_end-clause-err
returns-in_err-move_end-clause-err c =
    on_err c.from_residual.result _
    ((c.get_mut.follows.holds c.in-Some.term.now).0
    ∙ set_value_same (is_at (nat_cmp c.args.run)) c.args.terms.now.entries c.in-Some.term.now (sym c.in-Some.ensures.value))

pub returns-in_ok-move_end-clause-kept : goal.returns-in_ok-move_end-clause-kept
returns-in_ok-move_end-clause-kept c =
    let found = sym c.in-Some.ensures.value in
    let term : Term = record { end = c.args.end; told = c.in-Some.term.now.told } in
    let new = c.get_mut.follows.lender term in
    let writes = c.get_mut.follows.holds term in
    let updates = writes.3 (rw found refl) in
    kept-moved c.args.run (Some term) c.args.terms.now.entries new.entries (has_end c.args.ends.now) (has_end c.move_end.new.ends) c.requires.kept updates.0
    (sorted-ascends new.entries writes.4) c.in_ok-move_end.ensures.ok

pub returns-in_ok-move_end-clause-ok : goal.returns-in_ok-move_end-clause-ok
returns-in_ok-move_end-clause-ok c =
    let term : Term = record { end = c.args.end; told = c.in-Some.term.now.told } in
    ap leases_in (c.get_mut.follows.holds term).0
    ∙ set-changed c.args.run (renewed c.args.end) c.in-Some.term.now term refl c.args.terms.now.entries c.requires.kept.ascending (sym c.in-Some.ensures.value)

pub returns-in_default-clause-ok : goal.returns-in_default-clause-ok
returns-in_default-clause-ok c =
    ap (λ terms. leases_in terms.entries) c.get_mut.follows.holds-at-none
    ∙ sym (none-changed c.args.run (renewed c.args.end) c.args.terms.now.entries (sym (rw c.in_default.is at c.get_mut.ensures.value)))
