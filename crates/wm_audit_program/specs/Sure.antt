-- What a `SureSink` shows.
use Rattle.std.specs.Prelude.{ℕ, List, Option, Some}

-- it tells all bytes that it was given
abbrev pub given_of : List ℕ → Option (List ℕ)
given_of bytes = Some bytes

-- it meets no fault
abbrev pub faults_of : List ℕ → ℕ
faults_of bytes = 0
