use Rattle.std.proofs.Common.{◌≡◌, rules}
use Rattle.command_tests.proofs.wakes.wake_with.Goals as goal

pub wake_of-requires-clause-legal : goal.wake_of-requires-clause-legal
wake_of-requires-clause-legal c =
    let same : c.in_ok-later-3.later ≡ c.in_ok-later.later = search rules in
    rw same c.in_ok-later.ensures
