use Rattle.wm_steps.proofs.Marks.{set-marked}
use Rattle.wm_steps.proofs.covers.Covers.set.Goals as goal

pub returns-clause-ok : goal.returns-clause-ok
returns-clause-ok c = set-marked c.args.name.now c.in_ok-key.key c.args.mark c.args.self.now.marks c.insert.new.self c.in_ok-key.ensures.ok c.in_ok-insert.ensures.updates
