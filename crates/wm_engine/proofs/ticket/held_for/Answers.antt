use Rattle.std.proofs.Common.{◌≡◌, ℕ, Option, Some, rules, refl, sym, ◌∙◌, ap, subst}
use Rattle.std.specs.Prelude.{IsSomeAnd}
use Rattle.wm_machine.specs.Runs.{run_numbered}
use Rattle.wm_machine.specs.declared.state.Run.{Run}
use Rattle.wm_machine.specs.declared.state.State.{State}
use Rattle.wm_runs.proofs.RunLookups.{found-numbered}
use Rattle.wm_engine.specs.Calls.{IsTicketIn}
use Rattle.wm_engine.specs.TableState.{ticket_of, TicketState}
use Rattle.wm_engine.proofs.ticket.held_for.Goals as goal

-- the ticket of a run that is found is in the state
ticket-in : (s : State) (number : ℕ) (run : Run) → run_numbered number s.runs ≡ Some run → IsTicketIn s (ticket_of run)
ticket-in s number run found =
    let there = ap (λ n. run_numbered n s.runs) (found-numbered number s.runs run found) ∙ found in
    subst (λ (o : Option Run). IsSomeAnd o (λ r. ticket_of run ≡ ticket_of r)) (sym there) refl

pub returns-clause-run : goal.returns-clause-run
returns-clause-run c =
    let s = c.args.view.now in
    let run = c.in-Some.run'.now in
    let found : run_numbered c.args.number s.runs ≡ Some run = search rules in
    ap (λ (t : TicketState). t.task.run) c.of_run.ensures ∙ found-numbered c.args.number s.runs run found

pub returns-clause-ticket : goal.returns-clause-ticket
returns-clause-ticket c =
    let s = c.args.view.now in
    let run = c.in-Some.run'.now in
    let found : run_numbered c.args.number s.runs ≡ Some run = search rules in
    subst (λ (t : TicketState). IsTicketIn s t) (sym c.of_run.ensures) (ticket-in s c.args.number run found)
