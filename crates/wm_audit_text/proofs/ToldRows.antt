-- A row is read from its line.
use Rattle.std.proofs.Common.{◌≡◌, ℕ, List, Option, Some, None, option_map, refl, ap}
use Rattle.std.specs.Prelude.{codes}
use Rattle.serde_json.specs.Data as json
use Rattle.serde_json.specs.Find.{get}
use Rattle.uuid.specs.Text.{hyphenated_text, lower, parsed}
use Rattle.wm_audit_text.proofs.LineValues.{read_by-text}
use Rattle.wm_audit_text.proofs.ReadFields.{text-read, texts-read, whole-read, wholes-read}
use Rattle.wm_audit_text.specs.Fields.{id_at, text_in}
use Rattle.wm_audit_text.specs.Lines.{row_line, row_of, IsToldRow}
use Rattle.wm_audit_text.specs.Ranges.{IsRowInRange}
use Rattle.wm_audit_text.specs.StoredRows.{row_in, row_json, with_asked, with_moments, with_name, with_standing, with_texts}
use Rattle.wm_data.specs.DataJson.{list_of, whole}
use Rattle.wm_keeper.specs.declared.row.Row.{Row}
use Rattle.wm_script.specs.Lines.{value_of}
use Rattle.wm_script.specs.Values.{id_in}
use Rattle.wm_spelling.specs.Works.{id_json, texts_json}

-- what is found under the keys of a row
record Found : Type 0 where
  version : Option json.Data
  seq : Option json.Data
  id : Option json.Data
  name : Option json.Data
  class : Option json.Data
  kind : Option json.Data
  period : Option json.Data
  flex : Option json.Data
  delay : Option json.Data
  policy : Option json.Data
  wait : Option json.Data
  merger : Option json.Data
  network : Option json.Data
  flags : Option json.Data
  phase : Option json.Data
  attempt : Option json.Data
  backoff_n : Option json.Data
  runs : Option json.Data
  generation : Option json.Data
  enqueued_at : Option json.Data
  input : Option json.Data
  output : Option json.Data
  prior : Option json.Data
  tags : Option json.Data
  next_at : Option json.Data
  keep_for : Option json.Data
  finished_at : Option json.Data

abbrev found : json.Data → Found
found d = record {
  version = get (codes "version") d;
  seq = get (codes "seq") d;
  id = get (codes "id") d;
  name = get (codes "name") d;
  class = get (codes "class") d;
  kind = get (codes "kind") d;
  period = get (codes "period") d;
  flex = get (codes "flex") d;
  delay = get (codes "delay") d;
  policy = get (codes "policy") d;
  wait = get (codes "wait") d;
  merger = get (codes "merger") d;
  network = get (codes "network") d;
  flags = get (codes "flags") d;
  phase = get (codes "phase") d;
  attempt = get (codes "attempt") d;
  backoff_n = get (codes "backoff_n") d;
  runs = get (codes "runs") d;
  generation = get (codes "generation") d;
  enqueued_at = get (codes "enqueued_at") d;
  input = get (codes "input") d;
  output = get (codes "output") d;
  prior = get (codes "prior") d;
  tags = get (codes "tags") d;
  next_at = get (codes "next_at") d;
  keep_for = get (codes "keep_for") d;
  finished_at = get (codes "finished_at") d;
}

abbrev written : Row → Option (List ℕ) → Found
written row name = record {
  version = Some (whole row.version);
  seq = Some (whole row.seq);
  id = Some (id_json row.id);
  name = option_map json.string name;
  class = Some (json.string row.class);
  kind = Some (whole row.kind);
  period = Some (whole row.period);
  flex = Some (whole row.flex);
  delay = Some (whole row.delay);
  policy = Some (whole row.policy);
  wait = Some (whole row.wait);
  merger = Some (whole row.merger);
  network = Some (whole row.network);
  flags = Some (whole row.flags);
  phase = Some (whole row.phase);
  attempt = Some (whole row.attempt);
  backoff_n = Some (whole row.backoff_n);
  runs = Some (whole row.runs);
  generation = Some (whole row.generation);
  enqueued_at = Some (whole row.enqueued_at);
  input = Some (json.string row.input);
  output = Some (json.string row.output);
  prior = Some (list_of whole row.prior);
  tags = Some (texts_json row.tags);
  next_at = Some (whole row.next_at);
  keep_for = Some (whole row.keep_for);
  finished_at = Some (whole row.finished_at);
}

abbrev named : Row → Option (List ℕ) → json.Data
named row name = json.object (with_name name (with_texts row (with_moments row (with_standing row (with_asked row json.no_members)))))

found-written : (row : Row) (name : Option (List ℕ)) → found (named row name) ≡ written row name
found-written row None = refl
found-written row (Some name) = refl

-- what is read of what is found
read-name : (key : List ℕ) (d : json.Data) (name : Option (List ℕ)) → get key d ≡ option_map json.string name → text_in key d ≡ name
unfolding text_in
read-name key d None is = rw is refl
read-name key d (Some name) is = rw is refl

read-id : (key : List ℕ) (d : json.Data) (id : List ℕ) → parsed (hyphenated_text lower id) ≡ Some id → get key d ≡ Some (id_json id) → id_at key d ≡ id
unfolding id_at id_in
read-id key d id own is = rw (is, own) refl

row_in-written : (row : Row) (d : json.Data) → IsRowInRange row → parsed (hyphenated_text lower row.id) ≡ Some row.id → found d ≡ written row row.name
    → row_in d ≡ row
row_in-written row d is own e =
    let n = is.numbers in
    rw (
      whole-read (codes "version") d row.version n.0 (ap (λ f. f.version) e),
      whole-read (codes "seq") d row.seq n.1.0 (ap (λ f. f.seq) e),
      whole-read (codes "kind") d row.kind n.1.1.0 (ap (λ f. f.kind) e),
      whole-read (codes "period") d row.period n.1.1.1.0 (ap (λ f. f.period) e),
      whole-read (codes "flex") d row.flex n.1.1.1.1.0 (ap (λ f. f.flex) e),
      whole-read (codes "delay") d row.delay n.1.1.1.1.1.0 (ap (λ f. f.delay) e),
      whole-read (codes "policy") d row.policy n.1.1.1.1.1.1.0 (ap (λ f. f.policy) e),
      whole-read (codes "wait") d row.wait n.1.1.1.1.1.1.1.0 (ap (λ f. f.wait) e),
      whole-read (codes "merger") d row.merger n.1.1.1.1.1.1.1.1.0 (ap (λ f. f.merger) e),
      whole-read (codes "network") d row.network n.1.1.1.1.1.1.1.1.1.0 (ap (λ f. f.network) e),
      whole-read (codes "flags") d row.flags n.1.1.1.1.1.1.1.1.1.1.0 (ap (λ f. f.flags) e),
    )
    (rw (
      whole-read (codes "phase") d row.phase n.1.1.1.1.1.1.1.1.1.1.1.0 (ap (λ f. f.phase) e),
      whole-read (codes "attempt") d row.attempt n.1.1.1.1.1.1.1.1.1.1.1.1.0 (ap (λ f. f.attempt) e),
      whole-read (codes "backoff_n") d row.backoff_n n.1.1.1.1.1.1.1.1.1.1.1.1.1.0 (ap (λ f. f.backoff_n) e),
      whole-read (codes "runs") d row.runs n.1.1.1.1.1.1.1.1.1.1.1.1.1.1.0 (ap (λ f. f.runs) e),
      whole-read (codes "generation") d row.generation n.1.1.1.1.1.1.1.1.1.1.1.1.1.1.1.0 (ap (λ f. f.generation) e),
      whole-read (codes "enqueued_at") d row.enqueued_at n.1.1.1.1.1.1.1.1.1.1.1.1.1.1.1.1.0 (ap (λ f. f.enqueued_at) e),
      whole-read (codes "next_at") d row.next_at n.1.1.1.1.1.1.1.1.1.1.1.1.1.1.1.1.1.0 (ap (λ f. f.next_at) e),
      whole-read (codes "keep_for") d row.keep_for n.1.1.1.1.1.1.1.1.1.1.1.1.1.1.1.1.1.1.0 (ap (λ f. f.keep_for) e),
      whole-read (codes "finished_at") d row.finished_at n.1.1.1.1.1.1.1.1.1.1.1.1.1.1.1.1.1.1.1.0 (ap (λ f. f.finished_at) e),
    )
    (rw (
      read-id (codes "id") d row.id own (ap (λ f. f.id) e),
      read-name (codes "name") d row.name (ap (λ f. f.name) e),
      text-read (codes "class") d row.class (ap (λ f. f.class) e),
      text-read (codes "input") d row.input (ap (λ f. f.input) e),
      text-read (codes "output") d row.output (ap (λ f. f.output) e),
      wholes-read (codes "prior") d row.prior is.prior (ap (λ f. f.prior) e),
      texts-read (codes "tags") d row.tags (ap (λ f. f.tags) e),
    ) refl))

row-read : (row : Row) → IsRowInRange row → parsed (hyphenated_text lower row.id) ≡ Some row.id
    → option_map row_in (get (codes "row") (row_json row)) ≡ Some row
row-read row is own = ap Some (row_in-written row (named row row.name) is own (found-written row row.name))

pub IsToldRow-row : (row : Row) → IsRowInRange row → parsed (hyphenated_text lower row.id) ≡ Some row.id → value_of (row_line row) ≡ Some (row_json row)
    → IsToldRow row
unfolding row_of
IsToldRow-row row is own value = read_by-text row_json (λ d. option_map row_in (get (codes "row") d)) row value (row-read row is own)
