use Rattle.std.proofs.Common.{◌≡◌, rules, subst, IfOk, Ok}
use Rattle.wm_machine.specs.Outcome.{IsLegalLine}
use Rattle.wm_machine.specs.declared.state.State.{State}
use Rattle.command_tests.proofs.wakes.wake_of.Goals as goal

pub wake_beside_a_run-wake-requires-clause-first_legal : goal.wake_beside_a_run-wake-requires-clause-first_legal
wake_beside_a_run-wake-requires-clause-first_legal g c =
    let made : c.enqueue.result ≡ Ok c.in_ok-later.first = search rules in
    let same : c.in_ok-both.both.0 ≡ c.in_ok-later.first = search rules in
    rw same (subst (λ result. IfOk result (λ command. (s : State) → IsLegalLine s command)) made c.enqueue.ensures)

pub wake_beside_a_run-wake-requires-clause-later_legal : goal.wake_beside_a_run-wake-requires-clause-later_legal
wake_beside_a_run-wake-requires-clause-later_legal g c =
    let same : c.in_ok-both.both.1 ≡ c.args.later = search rules in
    rw same c.requires.legal
