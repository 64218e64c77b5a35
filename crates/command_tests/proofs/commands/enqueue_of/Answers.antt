use Rattle.std.proofs.Common.{Some, rules}
use Rattle.wm_machine.proofs.Commands.{legal_line-asked}
use Rattle.wm_machine.specs.declared.command.Command.TheVariants as command
use Rattle.command_tests.proofs.commands.enqueue_of.Goals as goal

pub returns-in-Some : goal.returns-in-Some
returns-in-Some c = λ s. legal_line-asked s (command.Enqueue (Some c.in-Some.unique) c.args.batch) (search rules) (record { settled = λ is. absurd cc })
