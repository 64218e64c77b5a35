use Rattle.std.proofs.Common.{◌≡◌, ap, ◌∙◌}
use Rattle.std.proofs.lemmas.Result.{IfOk-weaker}
use Rattle.wm_collections.specs.Sets.{IsListOf}
use Rattle.wm_leases.specs.Ends.{has_end}
use Rattle.wm_leases.specs.Leases.{over_at, runs_of}
use Rattle.wm_leases.proofs.Lists.{none-listed, over-listed}
use Rattle.wm_leases.proofs.leases.Leases.over_at.Goals as goal

pub returns-then-not-is_over_among : goal.returns-then-not-is_over_among
returns-then-not-is_over_among c =
    c.new.ensures.items
    ∙ none-listed c.args.moment c.self.inside.terms.entries (has_end c.self.inside.ends) c.self.invariant (c.is_over_among.ensures c.if-not-is_over_among.true)
    ∙ ap (λ leases. runs_of (over_at c.args.moment leases)) c.self.view_is

pub returns : goal.returns
returns c =
    IfOk-weaker c.listed.result (λ list. IsListOf c.in_ok-runs.runs list.items) (λ runs. runs.items ≡ runs_of (over_at c.args.moment c.args.self.now))
    (λ list are. over-listed c.args.moment c.self.inside.terms.entries (has_end c.self.inside.ends) c.in_ok-runs.runs list.items c.self.invariant c.in_ok-runs.ensures are
    ∙ ap (λ leases. runs_of (over_at c.args.moment leases)) c.self.view_is)
    c.listed.ensures
