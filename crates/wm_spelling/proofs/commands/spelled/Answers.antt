use Rattle.wm_spelling.proofs.Shallow.{written_plain, written_shallow}
use Rattle.wm_spelling.proofs.commands.spelled.Goals as goal

pub returns-clause-plain : goal.returns-clause-plain
returns-clause-plain c = written_plain c.args.command.now c.command_value.result c.command_value.ensures

pub returns-clause-shallow : goal.returns-clause-shallow
returns-clause-shallow c = written_shallow c.args.command.now c.command_value.result c.command_value.ensures
