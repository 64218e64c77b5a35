use Rattle.std.proofs.lemmas.Result.{IfOk-weaker}
use Rattle.wm_replay.proofs.Steps.{goes-on}
use Rattle.wm_replay.proofs.replaying.replay.Goals as goal

pub returns-clause-goes_on : goal.returns-clause-goes_on
returns-clause-goes_on c =
    IfOk-weaker c.make.result _ _ (λ legal is. goes-on c.args.state.now c.make.new.state c.args.event.now legal c.requires.valid is) c.make.ensures
