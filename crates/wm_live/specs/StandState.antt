-- What a contract sees of a test driver.
use Rattle.std.specs.Prelude.{ℕ, List}
use Rattle.wm_bench.specs.declared.place.Place.{Place}
use Rattle.wm_engine.specs.TableState.{TableState}

-- the table, the places of the bench, and the text so far
pub record StandState (K B : Type 0) : Type 0 where
  pub table : TableState K
  pub places : List (Place B)
  pub text : List ℕ
