-- What is written of a verdict, whole or a front of it.
use Rattle.std.proofs.Common.{◌≡◌, ℕ, List, length, take, drop, Option, Some, refl, sym, subst, ap, ◌∙◌, inl, inr}
use Rattle.std.proofs.Math.Seq.{take-length}
use Rattle.std.proofs.lemmas.List.{take-append-drop}
use Rattle.wm_audit.specs.Verdicts.{IsVerdict}
use Rattle.wm_audit.specs.declared.verdict.Verdict.{Verdict}
use Rattle.wm_audit.specs.declared.verdict.Verdict.TheVariants as verdict
use Rattle.wm_audit_program.specs.Checked.{IsAnswered, IsCutOff, IsVerdictOn, IsWrittenBy}
use Rattle.wm_audit_program.specs.Judged.{IsJudged}
use Rattle.wm_audit_program.specs.Read.{IsReadAs, IsTellingStatus, IsToldBy}
use Rattle.wm_audit_program.specs.Statuses.{status_of}
use Rattle.wm_audit_program.specs.Written.{Takes}
use Rattle.wm_audit_program.specs.declared.judging.Judged.{Judged}
use Rattle.wm_audit_program.specs.declared.status.CheckStatus.{CheckStatus}
use Rattle.wm_audit_program.specs.declared.status.CheckStatus.TheVariants as status
use Rattle.wm_io.specs.Writing.{IsAppended}
use Rattle.wm_ended.specs.Ended.{IsPartAppended}

-- ---- a front of a text

pub IsPartAppended-front : (before now : Option (List ℕ)) (text : List ℕ) (taken : ℕ) → IsAppended before now (take taken text)
    → IsPartAppended before now text
IsPartAppended-front before now text taken given =
    record { front = take taken text; is_front = (drop taken text, sym (take-append-drop taken text)); given = given }

pub IsAppended-whole : (before now : Option (List ℕ)) (text : List ℕ) (taken : ℕ) → taken ≡ length text → IsAppended before now (take taken text)
    → IsAppended before now text
IsAppended-whole before now text taken all given =
    subst (IsAppended before now) (ap (λ count. take count text) all ∙ take-length text) given

-- ---- the verdict on bytes that were read

on_bytes : (bytes : List ℕ) (found : Verdict) → IsVerdict bytes found → IsVerdictOn (Some bytes) found
on_bytes bytes found is = record { bytes = bytes; told = refl; holds = is }

answered : {W : Type 0} (given : W → Option (List ℕ)) (left : Option (List ℕ)) (before now : W) (found : Verdict)
    → IsAnswered left (given before) (given now) (status_of found) → IsWrittenBy given (status_of found) left before now
answered given left before now (verdict.Sound last) answer = answer
answered given left before now (verdict.WrongLine line) answer = answer
answered given left before now (verdict.WrongText at) answer = answer

telling : (found : Verdict) → IsTellingStatus (status_of found)
telling (verdict.Sound last) = tt
telling (verdict.WrongLine line) = tt
telling (verdict.WrongText at) = tt

no_sink_fault : (found : Verdict) → status_of found ≡ status.SinkFault → ⊥
no_sink_fault (verdict.Sound last) is = absurd (cc)
no_sink_fault (verdict.WrongLine line) is = absurd (cc)
no_sink_fault (verdict.WrongText at) is = absurd (cc)

-- the whole line was written
pub IsToldBy-whole : {W : Type 0} (sinks : Takes W) (bytes line : List ℕ) (judged : Judged) (before now : W) → IsJudged bytes judged
    → line ≡ judged.line.items → IsAppended (sinks.given before) (sinks.given now) line → IsToldBy sinks bytes judged.status before now
IsToldBy-whole sinks bytes line judged before now is written given =
    subst (λ ended. IsToldBy sinks bytes ended before now) (sym is.status_is) (record {
      status_is = telling is.verdict;
      written = answered sinks.given (Some bytes) before now is.verdict (record {
        verdict = is.verdict;
        found = on_bytes bytes is.verdict is.found;
        answered = refl;
        written = subst (IsAppended (sinks.given before) (sinks.given now)) (written ∙ is.line_is) given;
      });
      sink_fault = λ fault. absurd (no_sink_fault is.verdict fault);
    })

-- a front of it was
pub IsCutOff-front : (bytes line : List ℕ) (judged : Judged) (before now : Option (List ℕ)) → IsJudged bytes judged → line ≡ judged.line.items
    → IsPartAppended before now line → IsCutOff (Some bytes) before now
IsCutOff-front bytes line judged before now is written front = record {
  verdict = is.verdict;
  found = on_bytes bytes is.verdict is.found;
  front = subst (IsPartAppended before now) (written ∙ is.line_is) front;
}

-- ---- the same of what the source had left

on_left : (left : Option (List ℕ)) (bytes : List ℕ) (found : Verdict) → IsReadAs left bytes → IsVerdictOn (Some bytes) found → IsVerdictOn left found
on_left left bytes found read on = record { bytes = bytes; told = read.told; holds = subst (λ all. IsVerdict all found) (sym on.told) on.holds }

cut_left : (left before now : Option (List ℕ)) (bytes : List ℕ) → IsReadAs left bytes → IsCutOff (Some bytes) before now → IsCutOff left before now
cut_left left before now bytes read cut =
    record { verdict = cut.verdict; found = on_left left bytes cut.verdict read cut.found; front = cut.front }

answer_left : (left before now : Option (List ℕ)) (bytes : List ℕ) (ended : CheckStatus) → IsReadAs left bytes → IsAnswered (Some bytes) before now ended
    → IsAnswered left before now ended
answer_left left before now bytes ended read answer =
    record {
      verdict = answer.verdict;
      found = on_left left bytes answer.verdict read answer.found;
      answered = answer.answered;
      written = answer.written;
    }

pub IsWrittenBy-left : {W : Type 0} (given : W → Option (List ℕ)) (ended : CheckStatus) (left : Option (List ℕ)) (bytes : List ℕ) (before now : W)
    → IsReadAs left bytes → IsWrittenBy given ended (Some bytes) before now → IsWrittenBy given ended left before now
IsWrittenBy-left given status.Sound left bytes before now read written = answer_left left (given before) (given now) bytes _ read written
IsWrittenBy-left given (status.WrongLine line) left bytes before now read written = answer_left left (given before) (given now) bytes _ read written
IsWrittenBy-left given (status.WrongText at) left bytes before now read written = answer_left left (given before) (given now) bytes _ read written
IsWrittenBy-left given status.Usage left bytes before now read written = written
IsWrittenBy-left given status.SourceFault left bytes before now read written = written
IsWrittenBy-left given status.TooLong left bytes before now read written = written
IsWrittenBy-left given status.SinkFault left bytes before now read written = cut_left left (given before) (given now) bytes read written
IsWrittenBy-left given status.Memory left bytes before now read (inl same) = inl same
IsWrittenBy-left given status.Memory left bytes before now read (inr cut) = inr (cut_left left (given before) (given now) bytes read cut)
