-- A log with one event more.
use Rattle.std.proofs.Common.{◌≡◌, ℕ, ◌+◌, List, [], ◌∷◌, ◌++◌, length, sym, ◌∙◌, ap, subst, arith, append_assoc}
use Rattle.std.proofs.lemmas.List.{append-nil}
use Rattle.wm_machine.specs.Log.{command_in, commands_of, AreNumberedFrom}
use Rattle.wm_machine.specs.Replay.{Replay}
use Rattle.wm_machine.specs.Step.{Legal, after}
use Rattle.wm_machine.specs.Types.{Command, Event, Reply, State}
use Rattle.wm_machine.specs.declared.event.Event.TheVariants as event

pub Replay-push : (first : State) (log : List Event) (last : State) (e : Event) → Replay first log last → Legal last e
    → Replay first (log ++ e ∷ []) (after last e)
Replay-push first [] last e replays legal = (subst (λ s. Legal s e) replays legal, ap (λ s. after s e) replays)
Replay-push first (d ∷ log) last e replays legal = (replays.0, Replay-push (after first d) log last e replays.1 legal)

pub commands_of-push : (log : List Event) (e : Event) → commands_of (log ++ e ∷ []) ≡ commands_of log ++ command_in e
commands_of-push [] e = append-nil (command_in e)
commands_of-push (d ∷ log) e = ap (λ rest. command_in d ++ rest) (commands_of-push log e) ∙ sym (append_assoc (command_in d) (commands_of log) (command_in e))

pub AreNumberedFrom-push : (line : ℕ) (log : List Event) (number : ℕ) (asked : Command) (reply : Reply) → AreNumberedFrom line log
    → number ≡ line + length (commands_of log) → AreNumberedFrom line (log ++ event.Command number asked reply ∷ [])
AreNumberedFrom-push line [] number asked reply numbered is = (is ∙ omega arith, tt)
AreNumberedFrom-push line (event.Command first c r ∷ log) number asked reply numbered is =
    (numbered.0, AreNumberedFrom-push (line + 1) log number asked reply numbered.1 (omega arith))
AreNumberedFrom-push line (_ ∷ log) number asked reply numbered is = AreNumberedFrom-push line log number asked reply numbered is
