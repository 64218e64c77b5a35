use Rattle.std.proofs.Common.{◌≡◌, rules}
use Rattle.command_tests.proofs.table.outcome_on.Goals as goal

pub enqueue_and_run-outcome-requires-clause-legal : goal.enqueue_and_run-outcome-requires-clause-legal
enqueue_and_run-outcome-requires-clause-legal g c =
    let table = c.in_ok-command.table in
    let same : c.in_ok-command.command ≡ c.args.command = search rules in
    rw same (c.requires.legal table.state)
