-- How a check ends: its exit status and its text, and what is written for a verdict.
use Rattle.std.specs.Prelude.{ℕ, List, [], codes}
use Rattle.serde_json.specs.Data as json
use Rattle.serde_json.specs.Written.{compact_text}
use Rattle.wm_audit.specs.declared.verdict.Verdict.{Verdict}
use Rattle.wm_audit.specs.declared.verdict.Verdict.TheVariants as verdict
use Rattle.wm_audit_program.specs.declared.status.CheckStatus.{CheckStatus}
use Rattle.wm_audit_program.specs.declared.status.CheckStatus.TheVariants as status
use Rattle.wm_audit_text.specs.Audits.{with_lf}
use Rattle.wm_ended.specs.Status.{status_text}
use Rattle.wm_ended.specs.declared.status.Status.TheVariants as run
use Rattle.wm_spelling.specs.Works.{count}

-- the exit status of the program
abbrev pub code_of : CheckStatus → ℕ
code_of status.Sound = 0
code_of (status.WrongLine line) = 1
code_of (status.WrongText at) = 1
code_of status.Usage = 2
code_of status.SourceFault = 3
code_of status.SinkFault = 4
code_of status.TooLong = 7
code_of status.Memory = 8

-- what is written on standard error, without the line's end: as of a run, where that ends so
abbrev pub text_of : CheckStatus → List ℕ
text_of status.Sound = []
text_of (status.WrongLine line) = []
text_of (status.WrongText at) = []
text_of status.Usage = status_text run.Usage
text_of status.SourceFault = status_text run.SourceFault
text_of status.SinkFault = status_text run.SinkFault
text_of status.TooLong = codes "audit too long"
text_of status.Memory = status_text run.Memory

-- how a check ends with a verdict
abbrev pub status_of : Verdict → CheckStatus
status_of (verdict.Sound last) = status.Sound
status_of (verdict.WrongLine line) = status.WrongLine line
status_of (verdict.WrongText at) = status.WrongText at

-- what is told of a verdict
abbrev pub verdict_json : Verdict → json.Data
verdict_json (verdict.Sound last) = json.object (json.member (codes "ok") (json.string (codes "sound")) json.no_members)
verdict_json (verdict.WrongLine line) = json.object
    (json.member (codes "line") (count line) (json.member (codes "wrong") (json.string (codes "line")) json.no_members))
verdict_json (verdict.WrongText at) = json.object
    (json.member (codes "at") (count at) (json.member (codes "wrong") (json.string (codes "text")) json.no_members))

-- the line of a verdict, with its LF
abbrev pub verdict_line : Verdict → List ℕ
verdict_line found = with_lf (compact_text (verdict_json found))
