use Rattle.std.proofs.Common.{◌∙◌, ap, is_some}
use Rattle.wm_request.proofs.Nexts.{IsNextRun-at}
use Rattle.wm_request.specs.Requests.{RequestFields}
use Rattle.wm_request.proofs.builder.Builder.next_at.Goals as goal

pub invariant_of-self : goal.invariant_of-self
invariant_of-self c = record {
  tags_are = c.self.invariant.tags_are;
  backoff_is = c.self.invariant.backoff_is;
  period_is = c.self.invariant.period_is;
  next_is = IsNextRun-at c.self.inside.period c.args.at (ap (λ (r : RequestFields). is_some r.period) c.self.view_is ∙ c.requires.periodic) c.requires.moment;
}
