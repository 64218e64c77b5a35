use Rattle.std.proofs.lemmas.Result.{IfOk-weaker}
use Rattle.wm_replay.proofs.Steps.{command-step, executed-goes-on}
use Rattle.wm_replay.proofs.executing.execute.Goals as goal

pub returns-clause-step : goal.returns-clause-step
returns-clause-step c = λ line.
    IfOk-weaker c.make.result _ _ (λ found is. command-step c.args.state.now c.make.new.state line c.args.command.now found c.requires.askable is) c.make.ensures

pub returns-clause-goes_on : goal.returns-clause-goes_on
returns-clause-goes_on c =
    IfOk-weaker c.make.result _ _
    (λ found is. executed-goes-on c.args.state.now c.make.new.state c.args.command.now found c.requires.valid c.requires.askable is) c.make.ensures
