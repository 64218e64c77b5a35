use Rattle.wm_cli.proofs.OriginLines.{seed_lines}
use Rattle.wm_cli.proofs.program.lines_of.Goals as goal

pub returns-in-Ok-clause-lines : goal.returns-in-Ok-clause-lines
returns-in-Ok-clause-lines g c = seed_lines (g.S.Source.left c.args.source.now) c.args.origin c.in-Seed.seed c.in-Ok.commands c.in-Seed.is c.in-Ok.ensures.commands
