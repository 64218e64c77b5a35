-- The line of a row of an audit: each field under its name, the id hyphenated, and the name only where there is one.
use Rattle.std.specs.Prelude.{ℕ, List, codes, Option, None, Some}
use Rattle.serde_json.specs.Data as json
use Rattle.wm_audit_text.specs.Fields.{id_at, text_at, text_in, texts_at, whole_at, wholes_at}
use Rattle.wm_data.specs.DataJson.{list_of, whole}
use Rattle.wm_keeper.specs.declared.row.Row.{Row}
use Rattle.wm_spelling.specs.Works.{id_json, texts_json}

-- ---- written

-- the numbers that say what was asked for
abbrev pub with_asked : Row → json.Members → json.Members
with_asked row members =
    json.put (codes "flags") (whole row.flags)
    (json.put (codes "network") (whole row.network)
    (json.put (codes "merger") (whole row.merger)
    (json.put (codes "wait") (whole row.wait)
    (json.put (codes "policy") (whole row.policy)
    (json.put (codes "delay") (whole row.delay)
    (json.put (codes "flex") (whole row.flex)
    (json.put (codes "period") (whole row.period)
    (json.put (codes "kind") (whole row.kind) members))))))))

-- the phase and the attempts
abbrev pub with_attempts : Row → json.Members → json.Members
with_attempts row members =
    json.put (codes "backoff_n") (whole row.backoff_n)
    (json.put (codes "attempt") (whole row.attempt)
    (json.put (codes "phase") (whole row.phase) members))

-- those that say how far the work has come
abbrev pub with_standing : Row → json.Members → json.Members
with_standing row members =
    json.put (codes "enqueued_at") (whole row.enqueued_at)
    (json.put (codes "generation") (whole row.generation)
    (json.put (codes "runs") (whole row.runs) (with_attempts row members)))

-- the moments, the form and the number
abbrev pub with_moments : Row → json.Members → json.Members
with_moments row members =
    json.put (codes "finished_at") (whole row.finished_at)
    (json.put (codes "keep_for") (whole row.keep_for)
    (json.put (codes "next_at") (whole row.next_at)
    (json.put (codes "seq") (whole row.seq)
    (json.put (codes "version") (whole row.version) members))))

-- the texts and the lists
abbrev pub with_texts : Row → json.Members → json.Members
with_texts row members =
    json.put (codes "tags") (texts_json row.tags)
    (json.put (codes "prior") (list_of whole row.prior)
    (json.put (codes "output") (json.string row.output)
    (json.put (codes "input") (json.string row.input)
    (json.put (codes "class") (json.string row.class)
    (json.put (codes "id") (id_json row.id) members)))))

-- the name, where there is one
abbrev pub with_name : Option (List ℕ) → json.Members → json.Members
with_name None members = members
with_name (Some name) members = json.put (codes "name") (json.string name) members

-- the members of a row; `put` has each in its place
abbrev pub row_members : Row → json.Members
row_members row = with_name row.name (with_texts row (with_moments row (with_standing row (with_asked row json.no_members))))

-- the line of a row
abbrev pub row_json : Row → json.Data
row_json row = json.object (json.member (codes "row") (json.object (row_members row)) json.no_members)

-- ---- read

-- the row that a value is read as
abbrev pub row_in : json.Data → Row
row_in d = record {
  version = whole_at (codes "version") d;
  seq = whole_at (codes "seq") d;
  id = id_at (codes "id") d;
  name = text_in (codes "name") d;
  class = text_at (codes "class") d;
  kind = whole_at (codes "kind") d;
  period = whole_at (codes "period") d;
  flex = whole_at (codes "flex") d;
  delay = whole_at (codes "delay") d;
  policy = whole_at (codes "policy") d;
  wait = whole_at (codes "wait") d;
  merger = whole_at (codes "merger") d;
  network = whole_at (codes "network") d;
  flags = whole_at (codes "flags") d;
  phase = whole_at (codes "phase") d;
  attempt = whole_at (codes "attempt") d;
  backoff_n = whole_at (codes "backoff_n") d;
  runs = whole_at (codes "runs") d;
  generation = whole_at (codes "generation") d;
  enqueued_at = whole_at (codes "enqueued_at") d;
  input = text_at (codes "input") d;
  output = text_at (codes "output") d;
  prior = wholes_at (codes "prior") d;
  tags = texts_at (codes "tags") d;
  next_at = whole_at (codes "next_at") d;
  keep_for = whole_at (codes "keep_for") d;
  finished_at = whole_at (codes "finished_at") d;
}
