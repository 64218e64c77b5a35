-- What a point of a hearing comes to, and how points follow one another.
use Rattle.std.specs.Prelude.{ℕ, List, [], ◌∷◌, ◌++◌, if◌then◌else◌}
use Rattle.wm_hearings.specs.Session.{Session}
use Rattle.wm_machine.specs.Step.{after}
use Rattle.wm_machine.specs.declared.event.Event.{Event}
use Rattle.wm_texts.specs.Texts.{event_text}

-- the events that it makes, what is written, and the session after it
pub record Part : Type 0 where
  pub events : List Event
  pub text : List ℕ
  pub session : Session

-- no event, and nothing is written
abbrev pub only : Session → Part
only session = record { events = []; text = []; session = session }

-- no event, and this is written
abbrev pub says : List ℕ → Session → Part
says text session = record { events = []; text = text; session = session }

-- an event of the machine, and this is written, before what is written for the event
abbrev pub makes : Event → List ℕ → Session → Part
makes e text session = record {
  events = e ∷ [];
  text = text ++ event_text session.state e (after session.state e);
  session = record session { state = after session.state e };
}

-- a point, and then the next one
infixl 10 ◌>>=◌
abbrev pub ◌>>=◌ : Part → (Session → Part) → Part
part >>= next = record {
  events = part.events ++ (next part.session).events;
  text = part.text ++ (next part.session).text;
  session = (next part.session).session;
}

-- what is answered to a line is left out where the state is hushed
abbrev pub answered : Session → List ℕ → List ℕ
answered session text = if session.state.hushed then [] else text
