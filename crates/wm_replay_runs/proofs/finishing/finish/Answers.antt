use Rattle.std.proofs.Common.{Option, ◌∙◌, subst}
use Rattle.std.specs.Prelude.{MatchOption}
use Rattle.wm_replay_runs.proofs.TurnLemmas.{over-made}
use Rattle.wm_replay_runs.specs.Away.{IsEndOf}
use Rattle.wm_replay_runs.specs.declared.finishing.Ended.{Ended}
use Rattle.wm_machine.specs.Step.{IsEnd}
use Rattle.wm_replay_runs.proofs.finishing.finish.Goals as goal

pub returns-clause-state : goal.returns-clause-state
returns-clause-state c =
    let s = c.args.state.now in
    let end = c.args.end.now in
    let is =
    subst (λ (found : Option Ended). MatchOption found (IsEnd s c.args.run end → ⊥) (IsEndOf s c.args.run end)) c.in-Some.is c.in_ok-ended.ensures in
    c.in_ok-end_run.ensures ∙ over-made s c.args.run is.legal.run c.in-Some.ended end is.legal.is_running is.of
