-- What a read does to the bytes that a source has left and to its count of faults.
use Rattle.std.specs.Prelude.{◌≡◌, ℕ, ◌<◌, ◌≤◌, Bool, true, false, List, [], ◌++◌, take, Option, option_map, IfSome}
use Rattle.wm_faults.specs.Faults.{HasCause}
use Rattle.wm_io.specs.declared.source.Got.{Got}
use Rattle.wm_io.specs.declared.source.Got.TheVariants as got

-- a count is at least one, and at most the length of the slice
abbrev pub FitsSlice : Got → ℕ → Type 0
FitsSlice (got.Some count) len = (0 < count) × (count ≤ len)
FitsSlice got.End len = Unit {0}
FitsSlice got.Failed len = Unit {0}

-- Where the source tells what it has left: the bytes read stood in front of what is left now, the
-- end comes only where nothing is left, and a failed read takes nothing.
abbrev pub Reads : Got → Option (List ℕ) → Option (List ℕ) → List ℕ → Type 0
Reads (got.Some count) before now slice = before ≡ option_map (λ rest. take count slice ++ rest) now
Reads got.End before now slice = IfSome before (λ rest. rest ≡ []) × (now ≡ before)
Reads got.Failed before now slice = now ≡ before

abbrev pub is_got_failed : Got → Bool
is_got_failed got.Failed = true
is_got_failed _ = false

-- a failed read raised the count, and any other left it
abbrev pub GotCause : Got → ℕ → ℕ → Type 0
GotCause answer before now = HasCause (is_got_failed answer) before now
