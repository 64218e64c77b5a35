-- A log in serial order, with more events.
use Rattle.std.proofs.Common.{◌≡◌, ℕ, ◌≤◌, Bool, true, false, List, [], ◌∷◌, ◌++◌, length, map, refl, sym, ◌∙◌, ap, subst, arith, inl, inr}
use Rattle.std.specs.List.{AllByRecursion}
use Rattle.std.proofs.lemmas.Bool.{cases_Bool, false≢true}
use Rattle.wm_machine.proofs.Commands.{answered, reply_where_asked}
use Rattle.wm_machine.proofs.Drains.{AreInTurn-append, commands_of-append, goes_on, Replay-append}
use Rattle.wm_machine.proofs.Settles.{quiet-settled}
use Rattle.wm_machine.proofs.Steps.{Valid-after}
use Rattle.wm_machine.specs.Outcome.{IsAskable}
use Rattle.wm_machine.specs.Frame.{Frame}
use Rattle.wm_machine.specs.Log.{commands_of}
use Rattle.wm_machine.specs.Replay.{Replay}
use Rattle.wm_machine.specs.Serial.{AreInOrder, AreInOrderBy, AreInTurn, BeginsByLine, BeginsSerial, drains_first, IsInTurn, MayGoOn}
use Rattle.wm_machine.specs.Step.{after, Answers, Legal}
use Rattle.wm_machine.specs.Valid.{Valid}
use Rattle.wm_machine.specs.Types.{Command, Event, Reply, Run, State}
use Rattle.wm_machine.specs.declared.command.Command.TheVariants as command
use Rattle.wm_machine.specs.declared.event.Event.TheVariants as event

-- where the first event is a line, and there is one
by_line-append : (first : State) (e : Event) (log : List Event) (last : State) (more : List Event) → BeginsByLine first (e ∷ log)
    → Replay first (e ∷ log) last → AreInTurn last more → BeginsByLine first (e ∷ (log ++ more))
by_line-append first (event.Command number command reply) log last more order replays turns =
    AreInTurn-append (after first (event.Command number command reply)) log last more order replays.1 turns
by_line-append first _ log last more order replays turns = absurd order

by-append : (drains : Bool) (first : State) (log : List Event) (last : State) (more : List Event) → AreInOrderBy drains first log → Replay first log last
    → (log ≡ [] → drains ≡ true) → AreInTurn last more → AreInOrderBy drains first (log ++ more)
by-append true first log last more order replays may turns = AreInTurn-append first log last more order replays turns
by-append false first [] last more order replays may turns = absurd (false≢true (may refl))
by-append false first (e ∷ log) last more order replays may turns = by_line-append first e log last more order replays turns

-- runs may start where nothing has happened only if what is startable is driven first
drains-may : (lines : List Command) (log : List Event) → MayGoOn lines log → log ≡ [] → drains_first lines ≡ true
drains-may lines [] may is = may
drains-may lines (e ∷ log) may is = absurd (cc)

pub AreInOrder-append : (lines : List Command) (first : State) (log : List Event) (last : State) (more : List Event) → AreInOrder lines first log
    → Replay first log last → MayGoOn lines log → AreInTurn last more → AreInOrder lines first (log ++ more)
AreInOrder-append lines first log last more order replays may turns =
    by-append (drains_first lines) first log last more order replays (drains-may lines log may) turns

-- one event more, in its turn
pub AreInOrder-push : (lines : List Command) (first : State) (log : List Event) (last : State) (e : Event) → AreInOrder lines first log → Replay first log last
    → MayGoOn lines log → IsInTurn last e → AreInOrder lines first (log ++ e ∷ [])
AreInOrder-push lines first log last e order replays may turn = AreInOrder-append lines first log last (e ∷ []) order replays may (turn, tt)

-- the first line comes at once, and one that settles in its turn
first-by : (drains : Bool) (first : State) (e : Event) → (drains ≡ true → IsInTurn first e) → BeginsByLine first (e ∷ []) → AreInOrderBy drains first (e ∷ [])
first-by true first e turn by_line = (turn refl, tt)
first-by false first e turn by_line = by_line

-- a first line that is driven to settles
settles : (asked : Command) (lines : List Command) → drains_first (asked ∷ lines) ≡ true → asked ≡ command.Settle
settles command.Settle lines drains = refl
settles _ lines drains = absurd (false≢true drains)

pub AreInOrder-first : (asked : Command) (lines : List Command) (first : State) (number : ℕ) (reply : Reply)
    → Legal first (event.Command number asked reply) → AreInOrder (asked ∷ lines) first (event.Command number asked reply ∷ [])
AreInOrder-first asked lines first number reply legal =
    first-by (drains_first (asked ∷ lines)) first (event.Command number asked reply)
    (λ drains. quiet-settled first reply (subst (λ asked. Answers first asked reply) (settles asked lines drains) legal.1)) tt

-- where nothing has happened, nothing is out of order
nothing-by : (drains : Bool) (first : State) → AreInOrderBy drains first []
nothing-by true first = tt
nothing-by false first = tt

pub AreInOrder-nothing : (lines : List Command) (first : State) → AreInOrder lines first []
AreInOrder-nothing lines first = nothing-by (drains_first lines) first

-- a log that has begun goes on
begun : (lines left : List Command) (first now : State) (log : List Event) → AllByRecursion IsAskable left → lines ≡ commands_of log ++ left
    → Replay first log now → Valid now → length now.runs ≤ 1 → AreInOrder lines first log → MayGoOn lines log → BeginsSerial lines first log
begun lines left first now log askable whole replays reached few order may =
    let rest = goes_on left now askable reached few in record {
      rest = rest.log;
      last = rest.last;
      whole = record {
        replay = Replay-append first log now rest.log rest.last replays rest.replay;
        commands = commands_of-append log rest.log ∙ ap (λ more. commands_of log ++ more) rest.commands ∙ sym whole;
        in_order = AreInOrder-append lines first log now rest.log order replays may rest.in_turn;
        quiet = rest.quiet;
      };
    }

-- no event yet: the first line comes at once
unbegun : (asked : Command) (lines : List Command) (first : State) → drains_first (asked ∷ lines) ≡ false → AllByRecursion IsAskable (asked ∷ lines)
    → Valid first → first.runs ≡ [] → BeginsSerial (asked ∷ lines) first []
unbegun asked lines first drains askable reached no_run =
    let owed = answered first asked askable.0 in
    let answer =
    reply_where_asked first asked 0 askable.0
    (record { settled = λ settles. absurd (false≢true (sym drains ∙ ap (λ a. drains_first (a ∷ lines)) settles)) }) in
    let e = event.Command 0 asked answer.0 in
    let legal : Legal first e = answer.1 in
    let rest =
    goes_on lines (after first e) askable.1 (Valid-after first e reached legal)
    (subst (λ (runs : List Run). length runs ≤ 1) (sym (ap (λ (f : Frame). f.runs) owed.frame.frame_is ∙ ap (map owed.frame.change) no_run)) (omega arith)) in
    record {
      rest = e ∷ rest.log;
      last = rest.last;
      whole = record {
        replay = (legal, rest.replay);
        commands = ap (λ more. asked ∷ more) rest.commands;
        in_order = subst (λ b. AreInOrderBy b first (e ∷ rest.log)) (sym drains) rest.in_turn;
        quiet = rest.quiet;
      };
    }

-- a log in serial order with at most one unreturned run goes on to the log of a whole serial run
pub BeginsSerial-goes-on : (lines left : List Command) (first now : State) (log : List Event) → AllByRecursion IsAskable left → lines ≡ commands_of log ++ left
    → first.runs ≡ [] → Replay first log now → Valid now → length now.runs ≤ 1 → AreInOrder lines first log → BeginsSerial lines first log
BeginsSerial-goes-on lines left first now (e ∷ log) askable whole rest replays reached few order =
    begun lines left first now (e ∷ log) askable whole replays reached few order tt
BeginsSerial-goes-on [] left first now [] askable whole rest replays reached few order = begun [] left first now [] askable whole replays reached few order refl
BeginsSerial-goes-on (asked ∷ lines) left first now [] askable whole rest replays reached few order = elim (cases_Bool (drains_first (asked ∷ lines))) [
  | inl drains ↦ begun (asked ∷ lines) left first now [] askable whole replays reached few order drains
  | inr at_once ↦ unbegun asked lines first at_once (subst (AllByRecursion IsAskable) (sym whole) askable) (subst Valid replays reached) rest
]
