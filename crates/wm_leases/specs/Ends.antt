-- The ends of leases in their order, and whether one is kept.
use Rattle.std.specs.Prelude.{◌≡◌, ◌&&◌, ◌||◌, ◌==◌, ℕ, ◌≤◌, Bool, true, false, not, cond, Option, Some, None}
use Rattle.std.specs.BTreeSet.{contains, BTreeSet}
use Rattle.std.specs.Ordering.{nat_cmp, ordering_then}
use Rattle.std.specs.declared.cmp.Ordering.{Ordering}
use Rattle.wm_collections.specs.Sets.{has_number}

-- the end of a lease, and the number of its run
abbrev pub End : Type 0
End = ℕ × ℕ

abbrev pub end_cmp : End → End → Ordering
end_cmp x y = ordering_then (nat_cmp x.0 y.0) (nat_cmp x.1 y.1)

-- whether an end is kept, for each moment and run
abbrev pub Table : Type 0
Table = ℕ → ℕ → Bool

abbrev pub has_end : BTreeSet End → Table
has_end ends end run = contains end_cmp ends (end, run)

-- whether a lease ends at a moment
abbrev pub ends_at : ℕ → Option ℕ → Bool
ends_at at None = false
ends_at at (Some end) = end == at

-- this end of a run is kept besides the others
abbrev pub IsEndKept : ℕ → Option ℕ → Table → Table → Type 0
IsEndKept run end old new = (at of : ℕ) → new at of ≡ (run == of && ends_at at end || old at of)

-- it isn't kept any more
abbrev pub IsEndForgotten : ℕ → Option ℕ → Table → Table → Type 0
IsEndForgotten run end old new = (at of : ℕ) → new at of ≡ (old at of && not (run == of && ends_at at end))

-- this is the end of a run, where it ends
abbrev pub IsEndOf : ℕ → Option ℕ → Table → Type 0
IsEndOf run end ends = (at : ℕ) → ends at run ≡ ends_at at end

-- now it is this, and the others are as they were
abbrev pub IsEndMoved : ℕ → Option ℕ → Table → Table → Type 0
IsEndMoved run end old new = (at of : ℕ) → new at of ≡ cond (run == of) (ends_at at end) (old at of)

-- the end of a run has come at a moment
pub record HasComeFor (ends : Table) (moment run : ℕ) : Type 0 where
  pub end : ℕ
  pub there : ends end run ≡ true
  pub come : end ≤ moment

-- that of some run has
abbrev pub HasOver : Table → ℕ → Type 0
HasOver ends moment = (run : ℕ) × HasComeFor ends moment run

-- these are the runs whose ends have come
pub record AreOverIn (ends : Table) (moment : ℕ) (runs : BTreeSet ℕ) : Type 0 where
  pub come : (run : ℕ) → has_number runs run ≡ true → HasComeFor ends moment run
  pub all : (run : ℕ) → HasComeFor ends moment run → has_number runs run ≡ true
