use Rattle.std.proofs.Common.{◌≡◌, rules, sym, subst}
use Rattle.command_tests.proofs.WaitingStates.{waiting_valid}
use Rattle.command_tests.specs.Waiting.{waiting_state}
use Rattle.wm_machine.specs.Valid.{Valid}
use Rattle.wm_machine.specs.declared.state.State.{State}
use Rattle.command_tests.proofs.commands.view.Goals as goal

pub new-requires-clause-valid : goal.new-requires-clause-valid
new-requires-clause-valid c =
    let state : c.state_of.result ≡ waiting_state c.args.works c.args.next = search rules in
    subst Valid (sym state) (waiting_valid c.args.works c.args.next c.requires.waiting c.requires.few_works c.requires.above c.requires.next)
