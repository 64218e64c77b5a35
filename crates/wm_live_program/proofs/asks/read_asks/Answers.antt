use Rattle.wm_live_program.proofs.Askable.{has-asks_in}
use Rattle.wm_live_program.proofs.asks.read_asks.Goals as goal

-- the asks of a script are askable
pub returns-in-Ok-clause-askable : goal.returns-in-Ok-clause-askable
returns-in-Ok-clause-askable c = rw (c.in-Ok.ensures.asks) (has-asks_in c.args.bytes.now)
