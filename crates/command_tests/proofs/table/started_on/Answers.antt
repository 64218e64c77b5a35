use Rattle.std.proofs.Common.{◌≡◌, rules}
use Rattle.command_tests.proofs.table.started_on.Goals as goal

pub command-requires : goal.command-requires
command-requires g c =
    let table = c.in_ok-command.table in
    let same : c.in_ok-command.command ≡ c.args.command = search rules in
    record { legal = rw same (c.requires.legal table.state) }
