-- The bytes of an audit as they were read, and what is told of them.
use Rattle.std.specs.Prelude.{◌≡◌, ℕ, ◌≤◌, List, length, Option, Some, IfSome}
use Rattle.wm_audit_program.specs.Checked.{most_audit_bytes, IsTooLong, IsWrittenBy}
use Rattle.wm_audit_program.specs.Written.{Takes}
use Rattle.wm_audit_program.specs.declared.status.CheckStatus.{CheckStatus}
use Rattle.wm_audit_program.specs.declared.status.CheckStatus.TheVariants as status
use Rattle.wm_faults.specs.Faults.{Failed}

-- these are all the bytes that the source had left, where it tells them, and they aren't too long
pub record IsReadAs (left : Option (List ℕ)) (bytes : List ℕ) : Type 0 where
  pub told : IfSome left (λ all. all ≡ bytes)
  pub short : length bytes ≤ most_audit_bytes

-- each status that ends a check before its bytes are looked at, with its cause
abbrev pub IsReadBy : CheckStatus → ℕ → ℕ → Option (List ℕ) → Type 0
IsReadBy status.SourceFault before now left = Failed before now
IsReadBy status.TooLong before now left = IsTooLong before now left
IsReadBy status.Memory before now left = now ≡ before
IsReadBy _ before now left = ⊥

-- how a check ends whose bytes were read
abbrev pub IsTellingStatus : CheckStatus → Type 0
IsTellingStatus status.Usage = ⊥
IsTellingStatus status.SourceFault = ⊥
IsTellingStatus status.TooLong = ⊥
IsTellingStatus _ = Unit {0}

-- what was written of the verdict on these bytes, and why the check ended so
pub record IsToldBy {W : Type 0} (sinks : Takes W) (bytes : List ℕ) (ended : CheckStatus) (before now : W) : Type 0 where
  pub status_is : IsTellingStatus ended
  pub written : IsWrittenBy sinks.given ended (Some bytes) before now
  pub sink_fault : ended ≡ status.SinkFault → Failed (sinks.faults before) (sinks.faults now)
