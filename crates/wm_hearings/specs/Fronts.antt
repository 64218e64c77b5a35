-- What a hearing has made where it is cut short.
use Rattle.std.specs.Prelude.{◌≡◌, ◌⊎◌, ℕ, Bool, true, false, List, ◌++◌}
use Rattle.wm_hearings.specs.Hears.{date, hear_up_to_starts, is_last}
use Rattle.wm_hearings.specs.Session.{Session}
use Rattle.wm_hearings.specs.Starts.{AreStarts}
use Rattle.wm_hearings.specs.declared.hearing.Hearing.{Hearing}
use Rattle.wm_hearings.specs.declared.hearing.Stage.TheVariants.{Open}
use Rattle.wm_hearings.specs.declared.hearing.Terms.{Terms}
use Rattle.wm_machine.specs.declared.event.Event.{Event}

-- some of these events, from the first on
pub record AreFirstOf (events made : List Event) : Type 0 where
  pub rest : List Event
  pub all : events ≡ made ++ rest

-- all events before the starts, and some starts
pub record HasBegunStarts (terms : Terms) (n : ℕ) (hearing : Hearing) (old : Session) (made : List Event) : Type 0 where
  pub starts : List Event
  pub made_is : made ≡ (hear_up_to_starts terms n hearing old).events ++ starts
  pub still_open : (hear_up_to_starts terms n hearing old).session.stage ≡ Open
  pub are_starts : AreStarts (hear_up_to_starts terms n hearing old).session.state starts

-- these are the first events of a hearing
abbrev pub BeginsBy : Bool → Terms → ℕ → Hearing → Session → List Event → Type 0
BeginsBy true terms n hearing old made = AreFirstOf (date terms hearing.at old).events made
BeginsBy false terms n hearing old made = AreFirstOf (hear_up_to_starts terms n hearing old).events made ⊎ HasBegunStarts terms n hearing old made

abbrev pub Begins : Terms → ℕ → Hearing → Session → List Event → Type 0
Begins terms n hearing old made = BeginsBy (is_last hearing.heard) terms n hearing old made
