-- Drains that go on, and fronts of drains and of the parts of asks.
use Rattle.std.proofs.Common.{◌≡◌, ℕ, ◌≤◌, List, [], ◌∷◌, ◌++◌, length, map, Ok, Err, refl, sym, ◌∙◌, ap, subst, arith}
use Rattle.wm_asks.specs.Drains.{BeginsDrain, GoesAsDrain}
use Rattle.wm_asks.specs.Parts.{BeginsPart}
use Rattle.wm_asks.specs.declared.ask.LiveReply.{LiveReply}
use Rattle.wm_asks.specs.declared.ask.LiveReply.TheVariants as answer
use Rattle.wm_machine.proofs.Commands.{answered, reply_where_asked}
use Rattle.wm_machine.proofs.Drains.{AreInTurn-append, commands_of-append, goes_on, Replay-append}
use Rattle.wm_machine.proofs.Steps.{Valid-after}
use Rattle.wm_machine.specs.Frame.{Frame}
use Rattle.wm_machine.specs.Log.{command_in, commands_of}
use Rattle.wm_machine.specs.Outcome.{IsLegalLine}
use Rattle.wm_machine.specs.Quiet.{IsQuiet}
use Rattle.wm_machine.specs.Serial.{IsInTurn}
use Rattle.wm_machine.specs.Step.{after, Legal}
use Rattle.wm_machine.specs.declared.command.Command.{Command}
use Rattle.wm_machine.specs.declared.event.Event.{Event}
use Rattle.wm_machine.specs.declared.reply.Reply.{Reply}
use Rattle.wm_machine.specs.declared.state.Run.{Run}
use Rattle.wm_machine.specs.declared.state.State.{State}
use Rattle.wm_machine.specs.Valid.{Valid}
use Rattle.wm_machine.specs.declared.event.Event.TheVariants as event

pub goes-nothing : (s : State) → GoesAsDrain s [] s
goes-nothing s = record { replay = refl; silent = refl; in_turn = tt }

pub goes-one : (s : State) (e : Event) → Legal s e → command_in e ≡ [] → IsInTurn s e → GoesAsDrain s (e ∷ []) (after s e)
goes-one s e legal silent turn = record { replay = (legal, refl); silent = ap (λ front. front ++ []) silent; in_turn = (turn, tt) }

pub goes-then : (s t u : State) (events more : List Event) → GoesAsDrain s events t → GoesAsDrain t more u → GoesAsDrain s (events ++ more) u
goes-then s t u events more goes next = record {
  replay = Replay-append s events t more u goes.replay next.replay;
  silent = commands_of-append events more ∙ ap (λ front. front ++ commands_of more) goes.silent ∙ next.silent;
  in_turn = AreInTurn-append s events t more goes.in_turn goes.replay next.in_turn;
}

-- from every valid state with at most one unreturned run a drain goes on to its end
pub begins-drain : (s now : State) (events : List Event) → GoesAsDrain s events now → Valid now → length now.runs ≤ 1 → BeginsDrain s events
begins-drain s now events goes valid few =
    let rest = goes_on [] now tt valid few in
    record {
      rest = rest.log;
      last = rest.last;
      whole = record {
        goes = goes-then s now rest.last events rest.log goes (record { replay = rest.replay; silent = rest.commands; in_turn = rest.in_turn });
        quiet = rest.quiet;
      };
    }

-- a command was executed, and a drain went on
pub begins-command : (s : State) (line : ℕ) (asked : Command) (reply : Reply) (drain : List Event) (now : State)
    → Legal s (event.Command line asked reply) → GoesAsDrain (after s (event.Command line asked reply)) drain now → Valid now → length now.runs ≤ 1
    → BeginsPart s line (Ok asked) (event.Command line asked reply ∷ drain)
begins-command s line asked reply drain now legal goes valid few =
    let begins = begins-drain (after s (event.Command line asked reply)) now drain goes valid few in
    record {
      given = answer.Did reply;
      rest = begins.rest;
      last = begins.last;
      whole = record { drain = drain ++ begins.rest; events_are = refl; legal = legal; drained = begins.whole };
    }

-- a legal command wasn't executed
pub begins-nothing : (s : State) (line : ℕ) (asked : Command) → Valid s → IsQuiet s → IsLegalLine s asked → BeginsPart s line (Ok asked) []
begins-nothing s line asked valid quiet may =
    let owed = answered s asked may.askable in
    let replied = reply_where_asked s asked line may.askable (record { settled = λ settles. quiet }) in
    let e = event.Command line asked replied.0 in
    let legal : Legal s e = replied.1 in
    let none : (after s e).runs ≡ [] = ap (λ (f : Frame). f.runs) owed.frame.frame_is ∙ ap (map owed.frame.change) quiet.no_run in
    let begins =
    begins-drain (after s e) (after s e) [] (goes-nothing (after s e)) (Valid-after s e valid legal)
    (subst (λ (runs : List Run). length runs ≤ 1) (sym none) (omega arith)) in
    record {
      given = answer.Did replied.0;
      rest = e ∷ begins.rest;
      last = begins.last;
      whole = record { drain = begins.rest; events_are = refl; legal = legal; drained = begins.whole };
    }

-- an answer without a command, in a quiet state
pub begins-answer : (s : State) (line : ℕ) (told : LiveReply) → IsQuiet s → BeginsPart s line (Err told) []
begins-answer s line told quiet =
    record { given = told; rest = []; last = s; whole = (refl, record { goes = goes-nothing s; quiet = quiet }) }
