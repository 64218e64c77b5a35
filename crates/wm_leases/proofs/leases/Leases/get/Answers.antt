use Rattle.std.proofs.Common.{ap, option_map, sym, ◌∙◌}
use Rattle.wm_leases.specs.Leases.{lease_of}
use Rattle.wm_leases.specs.Terms.{lease_at}
use Rattle.wm_leases.specs.declared.terms.Term.{Term}
use Rattle.wm_leases.proofs.Lists.{lease-found}
use Rattle.wm_leases.proofs.leases.Leases.get.Goals as goal

pub returns-in-Some-clause-lease : goal.returns-in-Some-clause-lease
returns-in-Some-clause-lease c =
    ap (option_map (λ (term : Term). lease_at (c.args.run, term))) c.in-Some.ensures.value
    ∙ sym (lease-found c.args.run c.self.inside.terms.entries) ∙ ap (lease_of c.args.run) c.self.view_is

pub returns-in-None-clause-lease : goal.returns-in-None-clause-lease
returns-in-None-clause-lease c =
    ap (option_map (λ (term : Term). lease_at (c.args.run, term))) c.in-None.ensures.value
    ∙ sym (lease-found c.args.run c.self.inside.terms.entries) ∙ ap (lease_of c.args.run) c.self.view_is
