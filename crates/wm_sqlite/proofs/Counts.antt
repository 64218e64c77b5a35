-- What a keeper answers, and its cause where two counts are added up.
use Rattle.std.proofs.Common.{ℕ, ◌+◌, Bool, true, false, Result, Ok, Err, IfOk, ap, arith}
use Rattle.wm_faults.specs.Faults as faults
use Rattle.wm_sqlite.specs.Refusals.{answer_of}
use Rattle.wm_sqlite.specs.declared.refusal.Refusal.{Refusal}
use Rattle.wm_sqlite.specs.declared.refusal.Refusal.TheVariants as refusal

-- the cause of an answer by one count, with another one that stands still
pub HasCause-beside : (failed : Bool) (own before now : ℕ) → faults.HasCause failed before now → faults.HasCause failed (own + before) (own + now)
HasCause-beside true own before now cause = record { later = omega (arith, cause.later); rose = omega (arith, cause.rose) }
HasCause-beside false own before now same = ap (λ n. own + n) same

-- what holds of the value of an outcome holds of that of its answer
pub IfOk-answer : {T : Type 0} (P : T → Type 0) (outcome : Result T Refusal) → IfOk outcome P → IfOk (answer_of outcome) P
IfOk-answer P (Ok value) is = is
IfOk-answer P (Err refusal.Store) is = tt
IfOk-answer P (Err refusal.Memory) is = tt
