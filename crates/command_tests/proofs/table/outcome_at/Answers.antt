use Rattle.std.proofs.Common.{◌≡◌, rules}
use Rattle.command_tests.proofs.table.outcome_at.Goals as goal

pub outcome_on-requires-clause-legal : goal.outcome_on-requires-clause-legal
outcome_on-requires-clause-legal c =
    let same : c.in_ok-command-4.command ≡ c.in_ok-command.command = search rules in
    rw same c.in_ok-command.ensures
