use Rattle.std.proofs.Common.{ℕ, Option, subst}
use Rattle.std.specs.Prelude.{MatchOption}
use Rattle.wm_replay_runs.proofs.TurnLemmas.{turn-made}
use Rattle.wm_replay_runs.specs.Away.{IsTurnOf}
use Rattle.wm_machine.specs.Step.{IsTurn}
use Rattle.wm_replay_runs.proofs.turning.turn.Goals as goal

pub returns-clause-state : goal.returns-clause-state
returns-clause-state c =
    let s = c.args.state.now in
    let progress = c.args.progress.now in
    let is =
    subst (λ (found : Option ℕ). MatchOption found (IsTurn s c.args.run progress → ⊥) (IsTurnOf s c.args.run progress)) c.in-Some.is c.in_ok-seq.ensures in
    turn-made s c.args.run progress c.in-Some.seq c.change_work.new.works c.turn_run.new.runs is c.in_ok-change_work.ensures c.turn_run.ensures
