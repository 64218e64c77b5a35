-- That nothing waits: what can be done at the clock was done, and nothing comes up by itself before the moment that a session tells.
use Rattle.std.specs.Prelude.{◌≡◌, ℕ, ◌<◌, false, List, None, IfSome}
use Rattle.std.specs.List.{AllByRecursion}
use Rattle.wm_hearings.specs.Moments.{until_of}
use Rattle.wm_hearings.specs.Session.{Session}
use Rattle.wm_leases.specs.Leases.{is_over}
use Rattle.wm_leases.specs.declared.leases.Lease.{Lease}
use Rattle.wm_machine.specs.First.{first_of}
use Rattle.wm_steps.specs.Wakes.{at_moment}

-- no lease is over at a moment
abbrev pub NoneOver : ℕ → List Lease → Type 0
NoneOver moment leases = AllByRecursion (λ lease. is_over moment lease ≡ false) leases

-- nothing is startable, and each lease ends above the clock; and so it is at every moment before the one until which the session has nothing to do,
-- if nothing else is heard
pub record NothingWaits (session : Session) : Type 0 where
  pub startable : first_of session.state ≡ None
  pub over : NoneOver session.clock session.out
  pub startable_until : (moment : ℕ) → IfSome (until_of session) (λ until. moment < until) → first_of (at_moment session.state moment) ≡ None
  pub over_until : (moment : ℕ) → IfSome (until_of session) (λ until. moment < until) → NoneOver moment session.out
