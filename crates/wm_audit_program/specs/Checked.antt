-- The promise of a check, fact by fact.
use Rattle.std.specs.Prelude.{◌≡◌, ◌↔◌, ◌⊎◌, ℕ, ◌+◌, ◌<◌, ◌≤◌, List, [], length, Option, IfSome, IsSomeAnd}
use Rattle.wm_audit.specs.Verdicts.{IsVerdict}
use Rattle.wm_audit.specs.declared.verdict.Verdict.{Verdict}
use Rattle.wm_audit_program.specs.Statuses.{status_of, verdict_line}
use Rattle.wm_audit_program.specs.Written.{Takes}
use Rattle.wm_audit_program.specs.declared.checking.Checked.{Checked}
use Rattle.wm_audit_program.specs.declared.status.CheckStatus.{CheckStatus}
use Rattle.wm_audit_program.specs.declared.status.CheckStatus.TheVariants as status
use Rattle.wm_beginning.specs.Reading.{ForScript, Reads}
use Rattle.wm_beginning.specs.Script.{IsTakenWithin}
use Rattle.wm_faults.specs.Faults.{Failed}
use Rattle.wm_io.specs.Writing.{IsAppended}
use Rattle.wm_ended.specs.Ended.{IsPartAppended}

-- the most bytes of an audit
abbrev pub most_audit_bytes : ℕ
most_audit_bytes = 67108864

-- this is the verdict on the bytes that a source had left, where it tells them, and else on some bytes
abbrev pub IsVerdictOn : Option (List ℕ) → Verdict → Type 0
IsVerdictOn left verdict = ForScript left (λ bytes. IsVerdict bytes verdict)

-- a check ended with the verdict on what the source had left, whose line was written whole
pub record IsAnswered (left before now : Option (List ℕ)) (ended : CheckStatus) : Type 0 where
  pub verdict : Verdict
  pub found : IsVerdictOn left verdict
  pub answered : ended ≡ status_of verdict
  pub written : IsAppended before now (verdict_line verdict)

-- a front of the line of the verdict was written
pub record IsCutOff (left before now : Option (List ℕ)) : Type 0 where
  pub verdict : Verdict
  pub found : IsVerdictOn left verdict
  pub front : IsPartAppended before now (verdict_line verdict)

-- what was found of what the source had left, and written to the sink, by how the check ended: in the end nothing else was
abbrev pub IsWrittenBy : {W : Type 0} → (W → Option (List ℕ)) → CheckStatus → Option (List ℕ) → W → W → Type 0
IsWrittenBy given status.Usage left before now = now ≡ before
IsWrittenBy given status.SourceFault left before now = now ≡ before
IsWrittenBy given status.TooLong left before now = now ≡ before
IsWrittenBy given status.SinkFault left before now = IsCutOff left (given before) (given now)
IsWrittenBy given status.Memory left before now = (now ≡ before) ⊎ IsCutOff left (given before) (given now)
IsWrittenBy given ended left before now = IsAnswered left (given before) (given now) ended

-- how a check ends that gives a verdict
abbrev pub IsOfVerdict : CheckStatus → Type 0
IsOfVerdict status.Sound = Unit {0}
IsOfVerdict (status.WrongLine line) = Unit {0}
IsOfVerdict (status.WrongText at) = Unit {0}
IsOfVerdict _ = ⊥

-- the source didn't fail, and where it tells what it has left, that is too long
pub record IsTooLong (before now : ℕ) (left : Option (List ℕ)) : Type 0 where
  pub no_fault : now ≡ before
  pub too_long : IfSome left (λ all. most_audit_bytes < length all)

-- The promise of a check with these words, whose source was and is as told, which was given this keeper and this sink, and ended so.
pub record IsChecked {K W S : Type 0} (source : Reads S) (sinks : Takes W) (words : List (List ℕ)) (before now : S) (keeper : K) (sink : W)
    (checked : Checked K W) : Type 0 where
  -- The keeper isn't called.
  pub keeper_is : checked.keeper ≡ keeper
  -- Sound, WrongLine and WrongText are the verdict on all the bytes that the source had left, where it
  -- tells them, and else on some bytes; its line was written whole. Nothing else is ever written.
  pub written : IsWrittenBy sinks.given checked.status (source.left before) sink checked.sink
  -- At most one byte more than an audit may have is read.
  pub reads : IsTakenWithin (most_audit_bytes + 1) (source.left before) (source.left now)
  -- The causes: when each status comes. Memory alone is free.
  pub usage : (checked.status ≡ status.Usage) ↔ (0 < length words)
  pub usage_reads_nothing : checked.status ≡ status.Usage → now ≡ before
  pub source_fault : checked.status ≡ status.SourceFault → Failed (source.faults before) (source.faults now)
  pub too_long : checked.status ≡ status.TooLong → IsTooLong (source.faults before) (source.faults now) (source.left before)
  pub long_audit : words ≡ []
      → IsSomeAnd (source.left before) (λ all. most_audit_bytes < length all)
      → ¬ Failed (source.faults before) (source.faults now)
      → (checked.status ≡ status.TooLong) ⊎ (checked.status ≡ status.Memory)
  pub sink_fault : checked.status ≡ status.SinkFault → Failed (sinks.faults sink) (sinks.faults checked.sink)
  -- Completeness: no further words, an audit within the limit, and no fault.
  pub completes : words ≡ []
      → IsSomeAnd (source.left before) (λ all. length all ≤ most_audit_bytes)
      → ¬ Failed (source.faults before) (source.faults now)
      → ¬ Failed (sinks.faults sink) (sinks.faults checked.sink)
      → IsOfVerdict checked.status ⊎ (checked.status ≡ status.Memory)
