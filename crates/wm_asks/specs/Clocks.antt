-- The answers of a clock that goes by equal steps. This project's own.
use Rattle.std.specs.Prelude.{ℕ, zero, suc, ◌*◌, ◌-◌, ◌^◌, List, [], ◌∷◌, ◌++◌, min}

-- the greatest moment that a line may set
abbrev pub last_moment : ℕ
last_moment = 2 ^ 53 - 1

-- the answer of this number, from 1, of a clock with this step
abbrev pub stepped : ℕ → ℕ → ℕ
stepped step number = min (number * step) last_moment

-- so many answers, from the first on
abbrev pub answers_of : ℕ → ℕ → List ℕ
answers_of step zero = []
answers_of step (suc count) = answers_of step count ++ stepped step (suc count) ∷ []
