-- Hearings, one after another.
use Rattle.std.specs.Prelude.{◌≡◌, ℕ, List, [], ◌∷◌, ◌++◌}
use Rattle.wm_hearings.specs.Hears.{Hears}
use Rattle.wm_hearings.specs.Parts.{Part}
use Rattle.wm_hearings.specs.Session.{AreOutRuns, Session}
use Rattle.wm_hearings.specs.declared.hearing.Hearing.{Hearing}
use Rattle.wm_hearings.specs.declared.hearing.Terms.{Terms}
use Rattle.wm_machine.specs.Replay.{Replay}
use Rattle.wm_machine.specs.declared.event.Event.{Event}

-- a hearing of the line of this number came to this: its events are steps of the machine, and after it the runs of the state are those that are out
pub record IsHeard (terms : Terms) (n : ℕ) (hearing : Hearing) (old : Session) (part : Part) : Type 0 where
  pub hears : Hears terms n hearing old part
  pub replay : Replay old.state part.events part.session.state
  pub runs : AreOutRuns part.session

-- hearings of lines of these numbers came to these, from the first session to the last
abbrev pub AreHeard : Terms → Session → List (ℕ × Hearing) → List Part → Session → Type 0
AreHeard terms first [] [] last = last ≡ first
AreHeard terms first ((n, hearing) ∷ hearings) (part ∷ parts) last =
    IsHeard terms n hearing first part × AreHeard terms part.session hearings parts last
AreHeard terms first hearings parts last = ⊥

-- the events of all hearings, in order
abbrev pub events_of : List Part → List Event
events_of [] = []
events_of (part ∷ parts) = part.events ++ events_of parts
