use Rattle.std.proofs.Common.{ap, subst, sym, [], ◌∷◌, ◌++◌, ◌<◌, ◌∙◌}
use Rattle.std.proofs.lemmas.Result.{on_ok_weaker}
use Rattle.std.specs.List.{AllByRecursion}
use Rattle.wm_leases.specs.Terms.{leases_in}
use Rattle.wm_leases.specs.declared.leases.Lease.{Lease}
use Rattle.wm_leases.proofs.Lists.{absent-above, inserted-last}
use Rattle.wm_leases.proofs.leases.Leases.add.Goals as goal

pub add_term-requires-clause-absent : goal.add_term-requires-clause-absent
add_term-requires-clause-absent c =
    absent-above c.args.lease.run c.self.inside.terms.entries
    (subst (λ leases. AllByRecursion (λ (other : Lease). other.run < c.args.lease.run) leases) (sym c.self.view_is) c.requires.above)

pub returns-clause-ok : goal.returns-clause-ok
returns-clause-ok c =
    let terms = c.self.inside.terms.entries in
    let above = subst (λ leases. AllByRecursion (λ (other : Lease). other.run < c.args.lease.run) leases) (sym c.self.view_is) c.requires.above in
    on_ok_weaker c.add_term.result
    (λ is. ap leases_in is ∙ inserted-last c.args.lease.run (record { end = c.args.lease.end; told = c.args.lease.told }) terms above
    ∙ ap (λ leases. leases ++ c.args.lease ∷ []) c.self.view_is)
    c.add_term.ensures.ok
