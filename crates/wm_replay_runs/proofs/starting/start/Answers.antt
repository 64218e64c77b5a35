use Rattle.std.proofs.Common.{Option, subst}
use Rattle.std.specs.Prelude.{MatchOption}
use Rattle.wm_replay_runs.specs.Starts.{IsStartBy, StartsNone}
use Rattle.wm_machine.specs.declared.state.Run.{Run}
use Rattle.wm_replay_runs.proofs.starting.start.Goals as goal

pub returns-in-None-clause-legal : goal.returns-in-None-clause-legal
returns-in-None-clause-legal c =
    let s = c.args.state.now in
    let input = c.args.input.now in
    let none = subst (λ (found : Option Run). MatchOption found (StartsNone s input) (IsStartBy s input)) c.in-None.is c.in_ok-begun.ensures in
    (λ yes. absurd (cc), λ is. absurd (none c.args.run c.args.seq c.args.instance is))
