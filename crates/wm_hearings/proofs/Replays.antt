-- The events of hearings replay, one hearing after another.
use Rattle.std.proofs.Common.{◌≡◌, ℕ, List, [], ◌∷◌, ◌++◌, sym, ap, subst}
use Rattle.wm_data.specs.declared.data.DataEntry.{DataEntry}
use Rattle.wm_hearings.specs.Parts.{Part}
use Rattle.wm_hearings.specs.Session.{AreOutRuns, Session}
use Rattle.wm_hearings.specs.Sessions.{events_of, AreHeard}
use Rattle.wm_hearings.specs.declared.hearing.Hearing.{Hearing}
use Rattle.wm_hearings.specs.declared.hearing.Terms.{Terms}
use Rattle.wm_machine.proofs.Drains.{Replay-append}
use Rattle.wm_machine.proofs.Reports.{reported_once}
use Rattle.wm_machine.specs.Replay.{Replay}
use Rattle.wm_machine.specs.Reports.{IsReportedOnce}
use Rattle.wm_machine.specs.declared.event.Event.{Event}
use Rattle.wm_machine.specs.Valid.{Valid}
use Rattle.wm_machine.specs.declared.event.Event.TheVariants as event

pub all-replay : (terms : Terms) (first last : Session) (hearings : List (ℕ × Hearing)) (parts : List Part) → AreHeard terms first hearings parts last
    → Replay first.state (events_of parts) last.state × (AreOutRuns first → AreOutRuns last)
all-replay terms first last [] [] heard = (ap (λ (s : Session). s.state) heard, λ out. subst AreOutRuns (sym heard) out)
all-replay terms first last ((n, hearing) ∷ hearings) (part ∷ parts) heard =
    let rest = all-replay terms part.session last hearings parts heard.1 in
    (Replay-append first.state part.events part.session.state (events_of parts) last.state heard.0.replay rest.0, λ out. rest.1 heard.0.runs)
all-replay terms first last [] (part ∷ parts) heard = absurd heard
all-replay terms first last (h ∷ hearings) [] heard = absurd heard

pub heard-once : (terms : Terms) (first last : Session) (hearings : List (ℕ × Hearing)) (parts : List Part) (before later : List Event)
    (run seq instance : ℕ) (input : List DataEntry) → Valid first.state → AreHeard terms first hearings parts last
    → events_of parts ≡ before ++ event.Start run seq instance input ∷ later
    → IsReportedOnce first.state run before (event.Start run seq instance input) later last.state
heard-once terms first last hearings parts before later run seq instance input valid heard are =
    reported_once first.state last.state before later run seq instance input valid
    (subst (λ log. Replay first.state log last.state) are (all-replay terms first last hearings parts heard).0)
