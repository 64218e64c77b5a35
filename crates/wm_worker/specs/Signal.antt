-- What a contract sees of a signal.
use Rattle.std.specs.Prelude.{ℕ, Bool}

-- the number of its run, and whether it can never be raised
pub record SignalState : Type 0 where
  pub run : ℕ
  pub never : Bool
