use Rattle.std.proofs.Common.{◌∙◌, ap, is_some}
use Rattle.wm_request.proofs.Nexts.{IsNextRun-clear}
use Rattle.wm_request.specs.Requests.{RequestFields}
use Rattle.wm_request.proofs.builder.Builder.clear_next.Goals as goal

pub invariant_of-self : goal.invariant_of-self
invariant_of-self c = record {
  tags_are = c.self.invariant.tags_are;
  backoff_is = c.self.invariant.backoff_is;
  period_is = c.self.invariant.period_is;
  next_is = IsNextRun-clear c.self.inside.period (ap (λ (r : RequestFields). is_some r.period) c.self.view_is ∙ c.requires);
}
