-- What is written for the answers to asks that are no replies. This project's own, in the form of `wm_texts/specs/Texts.antt`.
use Rattle.std.specs.Prelude.{ℕ, Bool, true, false, ◌||◌, List, [], ◌∷◌, ◌++◌, codes, if◌then◌else◌, Option, Some, None}
use Rattle.serde_json.specs.Data as json
use Rattle.serde_json.specs.Written.{compact_text}
use Rattle.wm_asks.specs.declared.ask.LiveRefusal.{LiveRefusal}
use Rattle.wm_asks.specs.declared.ask.LiveRefusal.TheVariants as refusal
use Rattle.wm_asks.specs.declared.ask.LiveReply.{LiveReply}
use Rattle.wm_asks.specs.declared.ask.LiveReply.TheVariants as answer
use Rattle.wm_texts.specs.Texts.{count, done_json, id_text, ok_members, state_name}

abbrev pub refusal_name : LiveRefusal → List ℕ
refusal_name (refusal.NoSuchWork id) = codes "NoSuchWork"
refusal_name (refusal.KindMismatch id) = codes "KindMismatch"
refusal_name (refusal.NotWaiting id state) = codes "NotWaiting"
refusal_name (refusal.NeverDue id due) = codes "NeverDue"

-- the members, with the values that show the refusal, under their own names
abbrev pub with_shown : LiveRefusal → json.Members → json.Members
with_shown (refusal.NoSuchWork id) members = json.put (codes "id") (id_text id) members
with_shown (refusal.KindMismatch id) members = json.put (codes "id") (id_text id) members
with_shown (refusal.NotWaiting id state) members =
    json.put (codes "state") (json.string (state_name state)) (json.put (codes "id") (id_text id) members)
with_shown (refusal.NeverDue id due) members = json.put (codes "id") (id_text id) (json.put (codes "due") (count due) members)

-- the name of a refusal and the number of the line
abbrev pub refused_members : ℕ → LiveRefusal → json.Members
refused_members line found =
    json.member (codes "error") (json.string (refusal_name found))
    (json.member (codes "line") (count line) json.no_members)

abbrev pub refused_json : ℕ → LiveRefusal → json.Data
refused_json line found = json.object (with_shown found (refused_members line found))

-- an answer, as JSON; a reply is written with its event
abbrev pub answer_json : ℕ → LiveReply → json.Data
answer_json line (answer.Did reply) = json.null
answer_json line answer.Ticked = done_json line (codes "tick")
answer_json line (answer.Wake None) = done_json line (codes "wake")
answer_json line (answer.Wake (Some at)) =
    json.object (json.member (codes "at") (count at) (ok_members line (codes "wake") json.no_members))
answer_json line (answer.Refused found) = refused_json line found

-- a line: compact JSON, keys in ascending byte order, and LF
abbrev pub line_text : ℕ → LiveReply → List ℕ
line_text line told = compact_text (answer_json line told) ++ 10 ∷ []

-- whether an answer is a reply
abbrev pub is_reply : LiveReply → Bool
is_reply (answer.Did reply) = true
is_reply _ = false

-- what is written for an answer, beside its event, where the state is hushed or isn't
abbrev pub answer_text : ℕ → LiveReply → Bool → List ℕ
answer_text line told hushed = if hushed || is_reply told then [] else line_text line told
