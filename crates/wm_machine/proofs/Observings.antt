-- What is owed for an observe.
use Rattle.std.proofs.Common.{◌≡◌, ◌+◌, true, ltb, [], ◌∷◌, ◌++◌, length, length-append, refl, arith}
use Rattle.std.proofs.lemmas.Bool.{cond_both, ltb-true}
use Rattle.wm_machine.proofs.Owed.{quiet_frame, IsAnswered, IsLinedIn-quiet}
use Rattle.wm_machine.specs.Frame.{untouched}
use Rattle.wm_machine.specs.Valid.{Valid}
use Rattle.wm_machine.specs.Queried.{answer_to}
use Rattle.wm_machine.specs.Replied.{Outcome, unchanged}
use Rattle.wm_machine.specs.Types.{State}
use Rattle.wm_machine.specs.declared.command.Command.TheVariants as command
use Rattle.wm_machine.specs.declared.reply.Refusal.TheVariants.{TooManyObservers}
use Rattle.wm_machine.specs.declared.reply.Reply.TheVariants as reply
use Rattle.wm_machine.specs.declared.state.WorkQuery.{WorkQuery}

-- at most 100 observers, with one more
reached-observed : (s : State) (query : WorkQuery) → ltb (length s.observers) 100 ≡ true → Valid s
    → Valid (record s { observers = s.observers ++ query ∷ [] })
reached-observed s query few valid =
    record {
      works = valid.works;
      runs = valid.runs;
      instances = valid.instances;
      few_observers = let below = ltb-true (length s.observers) 100 few in omega (arith, below, length-append s.observers (query ∷ []));
      now = valid.now;
    }

pub observe-answered : (s : State) (query : WorkQuery) → IsAnswered s (command.Observe query)
observe-answered s query =
    let few = ltb (length s.observers) 100 in
    let done : Outcome = record {
      reply = reply.Observing (length s.observers + 1) (answer_to s query);
      state = record s { observers = s.observers ++ query ∷ [] };
    } in
    let refused = unchanged s (reply.Refused (TooManyObservers (length s.observers))) in
    record {
      answered = λ rest. refl;
      reached = λ reached. cond_both few done refused (λ o. Valid o.state) (λ e. reached-observed s query e reached) (λ e. reached);
      frame = IsLinedIn-quiet (command.Observe query) s _
          (cond_both few done refused (λ o. untouched o.state (command.Observe query ∷ []) ≡ quiet_frame s (command.Observe query)) (λ e. refl) (λ e. refl));
    }
