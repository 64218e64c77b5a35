-- The verdict on the bytes of an audit, as a status and a line.
use Rattle.std.specs.Prelude.{◌≡◌, ℕ, List}
use Rattle.wm_audit.specs.Verdicts.{IsVerdict}
use Rattle.wm_audit.specs.declared.verdict.Verdict.{Verdict}
use Rattle.wm_audit_program.specs.Statuses.{status_of, verdict_line}
use Rattle.wm_audit_program.specs.declared.judging.Judged.{Judged}

-- it is that of a verdict on these bytes
pub record IsJudged (bytes : List ℕ) (judged : Judged) : Type 0 where
  pub verdict : Verdict
  pub found : IsVerdict bytes verdict
  pub status_is : judged.status ≡ status_of verdict
  pub line_is : judged.line.items ≡ verdict_line verdict
