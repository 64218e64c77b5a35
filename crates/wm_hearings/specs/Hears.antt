-- What a session does in one hearing, point by point.
use Rattle.std.specs.Prelude.{◌≡◌, ℕ, Bool, true, false, List, [], ◌∷◌, nat_lt, if◌then◌else◌}
use Rattle.wm_hearings.specs.Leases.{expire_over, listen, tell_stops}
use Rattle.wm_hearings.specs.Lines.{hear}
use Rattle.wm_hearings.specs.Moments.{moment_of, until_of}
use Rattle.wm_hearings.specs.Parts.{◌>>=◌, only, Part}
use Rattle.wm_hearings.specs.Session.{Session}
use Rattle.wm_hearings.specs.Starts.{end, start_each, AreStartsIn}
use Rattle.wm_hearings.specs.declared.hearing.Heard.{Heard}
use Rattle.wm_hearings.specs.declared.hearing.Heard.TheVariants as heard
use Rattle.wm_hearings.specs.declared.hearing.Hearing.{Hearing}
use Rattle.wm_hearings.specs.declared.hearing.Terms.{Terms}
use Rattle.wm_machine.specs.Step.{after}
use Rattle.wm_machine.specs.declared.command.Command.TheVariants as command
use Rattle.wm_machine.specs.declared.event.Event.{Event}
use Rattle.wm_machine.specs.declared.event.Event.TheVariants as event
use Rattle.wm_machine.specs.declared.reply.Reply.TheVariants as reply

-- 1. The moment is that of the hearing, where that is above the present one: an event under line 0, for which nothing is written. Where a clock
-- went back, the moment waits until it has caught up.
abbrev pub moved : ℕ → Event
moved moment = event.Command 0 (command.Moment moment) reply.Moment

abbrev pub move_to : ℕ → Session → Part
move_to moment session =
    if nat_lt session.state.now moment
    then record { events = moved moment ∷ []; text = []; session = record session { state = after session.state (moved moment) } }
    else only session

-- 1 and 2. Until when it had nothing to do is what it had told before.
abbrev pub date : Terms → ℕ → Session → Part
date terms at old = do
  session ← move_to (moment_of at) old
  listen terms (until_of old) (moment_of at) session

-- 3 to 5
abbrev pub hear_on : Terms → ℕ → Heard → Session → Part
hear_on terms n heard session = do
  session ← hear terms n heard session
  session ← expire_over terms session
  tell_stops terms session

-- 1 to 5. Only then works start, so that no place is kept by a run that is given up in the same hearing.
abbrev pub hear_up_to_starts : Terms → ℕ → Hearing → Session → Part
hear_up_to_starts terms n hearing old = do
  session ← date terms hearing.at old
  hear_on terms n hearing.heard session

-- 1 to 7, where works start by these events
abbrev pub hear_with : Terms → ℕ → Hearing → List Event → Session → Part
hear_with terms n hearing starts old = do
  session ← hear_up_to_starts terms n hearing old
  session ← start_each terms starts session
  end session

-- all points of a hearing of the line of this number, in which this is what it comes to
pub record HearsOn (terms : Terms) (n : ℕ) (hearing : Hearing) (old : Session) (part : Part) : Type 0 where
  pub starts : List Event
  pub are_starts :
      let before = hear_up_to_starts terms n hearing old in AreStartsIn before.session.stage before.session.state starts
  pub part_is : part ≡ hear_with terms n hearing starts old

-- whether the input is over, or can't be read
abbrev pub is_last : Heard → Bool
is_last heard.End = true
is_last heard.Failed = true
is_last _ = false

-- what a hearing comes to; one that tells that nothing more is heard ends after the second point
abbrev pub HearsBy : Bool → Terms → ℕ → Hearing → Session → Part → Type 0
HearsBy true terms n hearing old part = part ≡ date terms hearing.at old
HearsBy false terms n hearing old part = HearsOn terms n hearing old part

abbrev pub Hears : Terms → ℕ → Hearing → Session → Part → Type 0
Hears terms n hearing old part = HearsBy (is_last hearing.heard) terms n hearing old part
