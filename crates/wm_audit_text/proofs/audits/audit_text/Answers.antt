use Rattle.wm_audit_text.proofs.audits.audit_text.Goals as goal
use Rattle.wm_audit_text.specs.Lines.{IsToldCanonical}
use Rattle.wm_collections.proofs.Lists.{All-with2}

pub returns-clause-spelled : goal.returns-clause-spelled
unfolding IsToldCanonical
returns-clause-spelled c = λ fresh canonical. record {
  header = c.in_ok-bytes.ensures.told fresh;
  rows_told = c.in_ok-add_rows.ensures.told;
  log_told = All-with2 c.args.log.now (λ e is told. told is) canonical c.in_ok-add_events.ensures.told;
  end = c.in_ok-end.ensures.told;
}
