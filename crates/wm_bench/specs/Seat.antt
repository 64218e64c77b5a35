-- What a contract sees of a seat.
use Rattle.std.specs.Prelude.{ℕ}

-- the number of the place that the worker was taken from, and the worker
pub record Seat (B : Type 0) : Type 0 where
  pub number : ℕ
  pub worker : B
