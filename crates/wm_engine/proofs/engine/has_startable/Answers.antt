use Rattle.wm_engine.proofs.Steps.{startable-told}
use Rattle.wm_engine.proofs.engine.has_startable.Goals as goal

pub returns : goal.returns
returns c = startable-told c.args.view.now c.first.result c.is_some.result c.first.ensures c.is_some.ensures
