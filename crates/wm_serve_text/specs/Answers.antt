-- What is answered to the lines of a session that are no commands. This project's own, in the form of `wm_texts/specs/Texts.antt`.
use Rattle.std.specs.Prelude.{ℕ, List, [], ◌∷◌, ◌++◌, codes}
use Rattle.serde_json.specs.Data as json
use Rattle.serde_json.specs.Written.{compact_text}
use Rattle.wm_serve_text.specs.declared.answers.RunReply.{RunReply}
use Rattle.wm_serve_text.specs.declared.answers.RunReply.TheVariants as reply
use Rattle.wm_texts.specs.Texts.{count, done_json, ok_members, texts}

-- a line: compact JSON, keys in ascending byte order, and LF
abbrev pub line_text : json.Data → List ℕ
line_text d = compact_text d ++ 10 ∷ []

-- ---- a line that names a run

abbrev pub run_member : List ℕ → json.Members
run_member run = json.member (codes "run") (json.string run) json.no_members

-- what was done, and the name as it was given
abbrev pub run_done_json : ℕ → List ℕ → List ℕ → json.Data
run_done_json line done run = json.object (ok_members line done (run_member run))

-- why nothing was done
abbrev pub run_refused_json : ℕ → List ℕ → List ℕ → json.Data
run_refused_json line why run = json.object
    (json.member (codes "error") (json.string why)
    (json.member (codes "line") (count line) (run_member run)))

abbrev pub run_reply_json : ℕ → List ℕ → RunReply → json.Data
run_reply_json line run reply.Progress = run_done_json line (codes "progress") run
run_reply_json line run reply.Reported = run_done_json line (codes "reported") run
run_reply_json line run reply.Late = run_done_json line (codes "late") run
run_reply_json line run reply.NoTurnLeft = run_refused_json line (codes "NoTurnLeft") run
run_reply_json line run reply.NoSuchRun = run_refused_json line (codes "NoSuchRun") run

abbrev pub run_reply_text : ℕ → List ℕ → RunReply → List ℕ
run_reply_text line run answer = line_text (run_reply_json line run answer)

-- ---- a beat

-- the names that no run that is out has, and those of runs that were stopped
abbrev pub beat_json : ℕ → List (List ℕ) → List (List ℕ) → json.Data
beat_json line gone late = json.object
    (json.member (codes "gone") (texts gone)
    (json.member (codes "late") (texts late)
    (ok_members line (codes "beat") json.no_members)))

abbrev pub beat_text : ℕ → List (List ℕ) → List (List ℕ) → List ℕ
beat_text line gone late = line_text (beat_json line gone late)

-- ---- a close

-- the session is closing already
abbrev pub closing_text : ℕ → List ℕ
closing_text line = line_text (done_json line (codes "closing"))

-- it is over, since the line of this number closed it
abbrev pub closed_text : ℕ → List ℕ
closed_text line = line_text (done_json line (codes "closed"))
