-- What a write does to the bytes that a sink was given and to its count of faults.
use Rattle.std.specs.Prelude.{◌≡◌, ℕ, ◌<◌, ◌≤◌, Bool, true, false, List, ◌++◌, take, Option, option_map}
use Rattle.wm_faults.specs.Faults.{HasCause}
use Rattle.wm_io.specs.declared.sink.Put.{Put}
use Rattle.wm_io.specs.declared.sink.Put.TheVariants as put

-- a count is at least one, and at most the length of the piece
abbrev pub FitsPiece : Put → ℕ → Type 0
FitsPiece (put.Took count) len = (0 < count) × (count ≤ len)
FitsPiece put.Failed len = Unit {0}
FitsPiece put.Memory len = Unit {0}

-- Where the sink tells what it was given: the bytes taken stand at its end now, and a write that
-- failed or was refused memory gave nothing.
abbrev pub Writes : Put → Option (List ℕ) → Option (List ℕ) → List ℕ → Type 0
Writes (put.Took count) before now piece = now ≡ option_map (λ given. given ++ take count piece) before
Writes put.Failed before now piece = now ≡ before
Writes put.Memory before now piece = now ≡ before

abbrev pub is_put_failed : Put → Bool
is_put_failed put.Failed = true
is_put_failed _ = false

-- a failed write raised the count, and any other left it
abbrev pub PutCause : Put → ℕ → ℕ → Type 0
PutCause answer before now = HasCause (is_put_failed answer) before now
