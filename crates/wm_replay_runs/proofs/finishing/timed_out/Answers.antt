use Rattle.std.proofs.Common.{Option, ◌∙◌, subst}
use Rattle.std.specs.Prelude.{MatchOption}
use Rattle.wm_replay_runs.proofs.TurnLemmas.{over-made}
use Rattle.wm_replay_runs.specs.Away.{IsTimeoutOf}
use Rattle.wm_replay_runs.specs.declared.finishing.Ended.{Ended}
use Rattle.wm_machine.specs.Step.{IsTimeout}
use Rattle.wm_machine.specs.declared.event.End.TheVariants.{Retry}
use Rattle.wm_replay_runs.proofs.finishing.timed_out.Goals as goal

pub returns-clause-state : goal.returns-clause-state
returns-clause-state c =
    let s = c.args.state.now in
    let is =
    subst (λ (found : Option Ended). MatchOption found (IsTimeout s c.args.run → ⊥) (IsTimeoutOf s c.args.run)) c.in-Some.is c.in_ok-ended.ensures in
    c.in_ok-end_run.ensures ∙ over-made s c.args.run is.legal.report.run c.in-Some.ended Retry is.legal.report.is_running is.of
