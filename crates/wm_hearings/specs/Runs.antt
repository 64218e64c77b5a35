-- The runs that are out, as the lines of a session name them.
use Rattle.std.specs.Prelude.{ℕ, Bool, false, not, List, find, nat_lt, Option}
use Rattle.std.specs.Option.{option_map_or}
use Rattle.std.specs.Str.{bytes_eq}
use Rattle.wm_hearings.specs.Moments.{end_after}
use Rattle.wm_hearings.specs.Session.{Session}
use Rattle.wm_hearings.specs.declared.hearing.Terms.{Terms}
use Rattle.wm_leases.specs.Leases.{changed_at, renewed, without}
use Rattle.wm_leases.specs.declared.leases.Lease.{Lease}
use Rattle.wm_machine.specs.Runs.{run_numbered}
use Rattle.wm_machine.specs.declared.state.State.{State}
use Rattle.wm_serve_text.specs.Names.{run_name}

-- whether a text is the name of the run of a lease
abbrev pub has_name : Terms → List ℕ → Lease → Bool
has_name terms name lease = bytes_eq (run_name terms.number lease.run) name

-- the lease of the run that is out and has this name
abbrev pub named : Terms → List ℕ → Session → Option Lease
named terms name session = find (has_name terms name) session.out

-- whether a run was stopped, so that what is reported on it comes too late
abbrev pub was_stopped : State → ℕ → Bool
was_stopped s run = option_map_or (λ own. not own.current) (run_numbered run s.runs) false

-- whether a run has a further turn: it has 1,000
abbrev pub has_turn : State → ℕ → Bool
has_turn s run = option_map_or (λ own. nat_lt own.turn 999) (run_numbered run s.runs) false

-- the end of a lease that begins at the clock
abbrev pub new_end : Terms → Session → Option ℕ
new_end terms session = end_after session.clock terms.lease

-- the lease of a run begins anew at the clock
abbrev pub renew : Terms → ℕ → Session → Session
renew terms run session = record session { out = changed_at (renewed (new_end terms session)) run session.out }

-- a run is no longer out
abbrev pub give_up : ℕ → Session → Session
give_up run session = record session { out = without run session.out }
