-- What is kept of each lease, and that the ends which are kept are those of the leases.
use Rattle.std.specs.Prelude.{◌≡◌, ℕ, List, map, cond, Option, Some, None}
use Rattle.std.specs.BTreeMap.{is_at}
use Rattle.std.specs.Map.{lookup}
use Rattle.std.specs.Ordering.{is_eq, nat_cmp}
use Rattle.wm_leases.specs.declared.leases.Lease.{Lease}
use Rattle.wm_leases.specs.declared.terms.Term.{Term}
use Rattle.wm_leases.specs.Ends.{ends_at, Table}
use Rattle.wm_leases.specs.Leases.{Ascend}

abbrev pub lease_at : ℕ × Term → Lease
lease_at entry = record { run = entry.0; end = entry.1.end; told = entry.1.told }

abbrev pub leases_in : List (ℕ × Term) → List Lease
leases_in terms = map lease_at terms

-- what is kept of the lease of a run
abbrev pub at : List (ℕ × Term) → ℕ → Option Term
at terms run = lookup (is_at (nat_cmp run)) terms

-- its end, where it is there and ends
abbrev pub end_of : Option Term → Option ℕ
end_of None = None
end_of (Some term) = term.end

-- what is kept of one lease is this, or nothing, and of each other what it was
abbrev pub IsSetAt : ℕ → Option Term → List (ℕ × Term) → List (ℕ × Term) → Type 0
IsSetAt run term old new = (q : ℕ) → at new q ≡ cond (is_eq (nat_cmp run q)) term (at old q)

-- the leases in ascending number of their runs, and just their ends
pub record IsKept (terms : List (ℕ × Term)) (ends : Table) : Type 0 where
  pub ascending : Ascend (leases_in terms)
  pub ends_are : (end run : ℕ) → ends end run ≡ ends_at end (end_of (at terms run))
