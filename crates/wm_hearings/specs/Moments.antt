-- The moments of a session: that of a hearing, that at which a lease ends, and that until which nothing comes up by itself.
use Rattle.std.specs.Prelude.{ℕ, ◌+◌, ◌/◌, Bool, false, List, [], ◌∷◌, filter, map, max, min, nat_le, nat_lt, if◌then◌else◌, Option, Some, None}
use Rattle.wm_asks.specs.Clocks.{last_moment}
use Rattle.wm_hearings.specs.Session.{Session}
use Rattle.wm_hearings.specs.declared.hearing.Stage.{Stage}
use Rattle.wm_hearings.specs.declared.hearing.Stage.TheVariants as stage
use Rattle.wm_hearings.specs.declared.hearing.Terms.{Terms}
use Rattle.wm_leases.specs.Leases.{least_end, lesser}
use Rattle.wm_machine.specs.Due.{due_of}
use Rattle.wm_machine.specs.declared.state.State.{State}
use Rattle.wm_steps.specs.Wakes.{waits_for_its_moment}

-- the moment of a hearing, cut off at the greatest that there is
abbrev pub moment_of : ℕ → ℕ
moment_of at = min at last_moment

-- the end of a lease that begins at a moment; one above the greatest moment never comes
abbrev pub end_after : ℕ → ℕ → Option ℕ
end_after moment lease = if nat_le (moment + lease) last_moment then Some (moment + lease) else None

-- ---- until when nothing comes up

-- the least of some moments
abbrev pub least : List ℕ → Option ℕ
least [] = None
least (moment ∷ moments) = lesser (Some moment) (least moments)

-- The moment at which a state wakes: the least at which a work is due that waits for its moment alone. It is the one of
-- `wm_steps/specs/Wakes.antt`, computed.
unfoldable pub wake_of : State → Option ℕ
wake_of s = least (map due_of (filter (waits_for_its_moment s) s.works))

-- where nothing starts any more, it doesn't matter
abbrev pub wake_in : Stage → State → Option ℕ
wake_in stage.Open s = wake_of s
wake_in _ s = None

-- until when a session has nothing to do, unless something is heard: 0 before the first hearing, then the least moment at which a lease ends or
-- the state wakes, and none where there is neither
abbrev pub until_of : Session → Option ℕ
until_of session = if session.heard then lesser (least_end session.out) (wake_in session.stage session.state) else Some 0

-- ---- a machine that slept

-- how late a hearing may be before it is the engine that didn't listen: a tenth of the lease, and 100 ms at least
abbrev pub slack : Terms → ℕ
slack terms = max 100 (terms.lease / 10)

-- whether a hearing at a moment is later than that, where the session had told until when it has nothing to do
abbrev pub has_overslept : Terms → Option ℕ → ℕ → Bool
has_overslept terms None moment = false
has_overslept terms (Some until) moment = nat_lt (until + slack terms) moment
