-- The leases of runs that are out, in ascending number of their runs. This project's own.
use Rattle.std.specs.Prelude.{ℕ, ◌==◌, ◌<◌, Bool, true, false, not, List, [], ◌∷◌, filter, find, map, min, nat_le, if◌then◌else◌, Option, Some, None}
use Rattle.wm_collections.specs.Lists.{AllLater}
use Rattle.wm_leases.specs.declared.leases.Lease.{Lease}

-- ---- moments

-- whether an end has come at a moment; one that never comes hasn't
abbrev pub has_come : ℕ → Option ℕ → Bool
has_come moment None = false
has_come moment (Some end) = nat_le end moment

-- the lesser of two moments, of which either may be none
abbrev pub lesser : Option ℕ → Option ℕ → Option ℕ
lesser None other = other
lesser (Some one) None = Some one
lesser (Some one) (Some other) = Some (min one other)

-- ---- one lease

-- whether a lease is over at a moment
abbrev pub is_over : ℕ → Lease → Bool
is_over moment lease = has_come moment lease.end

-- a lease that begins anew, and ends then
abbrev pub renewed : Option ℕ → Lease → Lease
renewed end lease = record lease { end = end }

-- that of a run which was told to stop
abbrev pub made_told : Lease → Lease
made_told lease = record lease { told = true }

abbrev pub is_of : ℕ → Lease → Bool
is_of run lease = lease.run == run

-- ---- the leases

-- the numbers of the runs
abbrev pub runs_of : List Lease → List ℕ
runs_of leases = map (λ lease. lease.run) leases

-- the lease of a run
abbrev pub lease_of : ℕ → List Lease → Option Lease
lease_of run leases = find (is_of run) leases

-- the leases but for that of a run
abbrev pub without : ℕ → List Lease → List Lease
without run leases = filter (λ lease. not (is_of run lease)) leases

-- the leases, of which that of a run is changed
abbrev pub changed_at : (Lease → Lease) → ℕ → List Lease → List Lease
changed_at change run leases = map (λ lease. if is_of run lease then change lease else lease) leases

-- the leases that are over at a moment, and those that aren't
abbrev pub over_at : ℕ → List Lease → List Lease
over_at moment leases = filter (is_over moment) leases

abbrev pub not_over_at : ℕ → List Lease → List Lease
not_over_at moment leases = filter (λ lease. not (is_over moment lease)) leases

-- the least moment at which one of them ends
abbrev pub least_end : List Lease → Option ℕ
least_end [] = None
least_end (lease ∷ leases) = lesser lease.end (least_end leases)

-- they stand in ascending number of their runs
abbrev pub Ascend : List Lease → Type 0
Ascend leases = AllLater (λ one other. one.run < other.run) leases
