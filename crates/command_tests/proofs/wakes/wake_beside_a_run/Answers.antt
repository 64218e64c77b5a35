use Rattle.command_tests.proofs.wakes.wake_beside_a_run.Goals as goal

pub command-requires : goal.command-requires
command-requires g c = record { legal = c.requires.first_legal c.args.table.now.state }

pub command-requires-2 : goal.command-requires-2
command-requires-2 g c = record { legal = c.requires.later_legal c.command.new.self.state }
