-- What a call with a share does to the number of works that its thread holds.
use Rattle.std.specs.Prelude.{ℕ, Option, Some, None}

-- how many works an answer gives
abbrev pub count_of : {T : Type 0} → Option T → ℕ
count_of (Some work) = 1
count_of None = 0
