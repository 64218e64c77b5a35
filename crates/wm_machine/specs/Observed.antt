-- Observing works: from now on what changes of those that a query asks for is noted. After the guide's page "Managing work", "Observing your
-- work"; that observers are numbered, and at most 100, is this project's own choice.
use Rattle.std.specs.Prelude.{◌+◌, [], ◌∷◌, ◌++◌, length, nat_lt, if◌then◌else◌}
use Rattle.wm_machine.specs.Queried.{answer_to}
use Rattle.wm_machine.specs.Replied.{Outcome, unchanged}
use Rattle.wm_machine.specs.declared.reply.Refusal.TheVariants.{TooManyObservers}
use Rattle.wm_machine.specs.declared.reply.Reply.TheVariants as reply
use Rattle.wm_machine.specs.declared.state.State.{State}
use Rattle.wm_machine.specs.declared.state.WorkQuery.{WorkQuery}

-- there is one observer more, and the reply gives its number, from 1, and the query's answer; beside 100 observers it is refused
abbrev pub observed : State → WorkQuery → Outcome
observed s query =
    if nat_lt (length s.observers) 100
    then record {
      reply = reply.Observing (length s.observers + 1) (answer_to s query);
      state = record s { observers = s.observers ++ query ∷ [] };
    }
    else unchanged s (reply.Refused (TooManyObservers (length s.observers)))
