-- What an event tells of the lines.
use Rattle.std.proofs.Common.{◌≡◌, ℕ, ◌+◌, List, [], ◌∷◌, ◌++◌, ap, true}
use Rattle.wm_session.proofs.Words.{AreNumberedFrom, Command, Event, SettlesNext, command_in, drains_first}
use Rattle.wm_machine.specs.declared.event.Event.TheVariants as event

-- ---- events that aren't commands

numbered_alone : (line : ℕ) (e : Event) → command_in e ≡ [] → AreNumberedFrom line (e ∷ [])
numbered_alone line (event.Command number asked reply) is = absurd cc
numbered_alone line _ is = tt

-- the lines are numbered as before
pub AreNumberedFrom-silent : (line : ℕ) (log : List Event) (e : Event) → command_in e ≡ [] → AreNumberedFrom line log → AreNumberedFrom line (log ++ e ∷ [])
AreNumberedFrom-silent line [] e is numbered = numbered_alone line e is
AreNumberedFrom-silent line (event.Command number asked reply ∷ log) e is numbered = (numbered.0, AreNumberedFrom-silent (line + 1) log e is numbered.1)
AreNumberedFrom-silent line (_ ∷ log) e is numbered = AreNumberedFrom-silent line log e is numbered

-- ---- the next line

-- what is startable is driven before one that settles
pub drains-settles : (lines : List Command) → SettlesNext lines → drains_first lines ≡ true
drains-settles [] next = absurd next
drains-settles (asked ∷ lines) next = ap (λ first. drains_first (first ∷ lines)) next
