use Rattle.std.proofs.Common.{◌≡◌, rules}
use Rattle.command_tests.proofs.table.started.Goals as goal

pub started_on-requires-clause-legal : goal.started_on-requires-clause-legal
started_on-requires-clause-legal c =
    let same : c.in_ok-command-3.command ≡ c.in_ok-command.command = search rules in
    rw same c.in_ok-command.ensures
