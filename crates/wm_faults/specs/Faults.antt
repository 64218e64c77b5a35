-- What a count of faults says about the calls between two moments.
use Rattle.std.specs.Prelude.{◌≡◌, ℕ, ◌+◌, ◌-◌, ◌^◌, ◌≤◌, Bool, true, false, min}

-- the count is higher, or stands at the end of its type
abbrev pub Rose : ℕ → ℕ → Type 0
Rose before now = min (before + 1) (2 ^ 64 - 1) ≤ now

-- a fault was counted: the count hasn't fallen, and it rose
pub record Failed (before now : ℕ) : Type 0 where
  pub later : before ≤ now
  pub rose : Rose before now

-- the cause of an answer that is a fault or isn't: a fault was counted, and any other answer leaves the count
abbrev pub HasCause : Bool → ℕ → ℕ → Type 0
HasCause true before now = Failed before now
HasCause false before now = now ≡ before
