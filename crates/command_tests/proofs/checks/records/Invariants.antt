use Rattle.command_tests.proofs.Numbered.{AreNumberedTo}
use Rattle.command_tests.proofs.checks.records.Given as goal

-- the works so far are numbered from 1 on
abbrev pub invariant-loop-index : goal.invariant-loop-index
invariant-loop-index l = AreNumberedTo l.index l.works
