use Rattle.std.proofs.Common.{ap, sym, ◌∙◌}
use Rattle.std.proofs.lemmas.Bool.{false≢true}
use Rattle.std.specs.BTreeMap.{is_at}
use Rattle.wm_leases.specs.Ends.{end_cmp, has_end}
use Rattle.wm_leases.specs.Leases.{least_end}
use Rattle.wm_leases.proofs.Moves.{in-order, no-ends}
use Rattle.wm_leases.proofs.Lists.{least-kept, none-kept}
use Rattle.wm_leases.proofs.leases.Leases.least_end.Goals as goal

pub returns-in-Some : goal.returns-in-Some
returns-in-Some c =
    let first = c.in-Some.end.now in
    sym (least-kept c.self.inside.terms.entries (has_end c.self.inside.ends) first.0 first.1 c.self.invariant c.in-Some.ensures.member
    (λ at of there. in-order first (at, of) (c.in-Some.ensures.least (at, of) there)))
    ∙ ap least_end c.self.view_is

pub returns-in-None : goal.returns-in-None
returns-in-None c =
    sym (none-kept c.self.inside.terms.entries (has_end c.self.inside.ends) c.self.invariant
    (λ at of. no-ends (is_at (end_cmp (at, of))) c.self.inside.ends.keys (λ some. false≢true (c.in-None.ensures.variant.1 some))))
    ∙ ap least_end c.self.view_is
