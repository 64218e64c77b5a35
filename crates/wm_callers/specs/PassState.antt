-- What a contract sees of a pass.
use Rattle.std.specs.Prelude.{ℕ, List}
use Rattle.wm_callers.specs.declared.entry.Signed.{Signed}

pub record PassState : Type 0 where
  pub number : ℕ
  pub seen : List Signed
  pub mine : List ℕ
  pub units : ℕ
