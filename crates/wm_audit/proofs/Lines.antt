-- What the lines of an audit are: they are cut as they were written, and none is that of an event and the last one.
use Rattle.std.proofs.Common.{◌≡◌, ℕ, ◌-◌, List, [], ◌∷◌, ◌++◌, Option, Some, None, option_map, refl, sym, subst}
use Rattle.std.specs.Prelude.{codes, IsSomeAnd}
use Rattle.serde_json.specs.Data as json
use Rattle.serde_json.specs.Find.{get}
use Rattle.serde_json.specs.Written.{compact_text}
use Rattle.wm_audit.proofs.Openings.{record_in-row}
use Rattle.wm_audit.specs.Places.{after_rows, record_in, IsRight}
use Rattle.wm_audit.specs.declared.place.Place.{Place}
use Rattle.wm_audit.specs.declared.place.Place.TheVariants.{First, Log, Rows}
use Rattle.wm_audit_text.proofs.Cuts.{cut-written}
use Rattle.wm_audit_text.proofs.LineValues.{read_by-line}
use Rattle.wm_audit_text.specs.Audits.{next_line, with_lf}
use Rattle.wm_audit_text.specs.Entries.{entry_in, entry_json, entry_of}
use Rattle.wm_audit_text.specs.Headers.{end_in, end_json}
use Rattle.wm_audit_text.specs.Lines.{end_line, end_of, entry_at, entry_line, header_form, header_in, header_line, header_of, row_line, row_of}
use Rattle.wm_audit_text.specs.StoredRows.{row_in, row_json}
use Rattle.wm_audit_text.specs.declared.entry.Entry.{Entry}
use Rattle.wm_audit_text.specs.declared.headers.Header.{Header}
use Rattle.wm_keeper.specs.declared.row.Row.{Row}
use Rattle.wm_machine.specs.declared.record.Record.{Record}

-- ---- what is read has its line

pub header-line : (line : List ℕ) (header : Header) → header_of line ≡ Some header → line ≡ header_line header.hands header.rows
unfolding header_of
header-line line header is = read_by-line header_form header_in line header is

pub row-line : (line : List ℕ) (row : Row) → row_of line ≡ Some row → line ≡ row_line row
unfolding row_of
row-line line row is = read_by-line row_json (λ d. option_map row_in (get (codes "row") d)) line row is

pub entry-line : (line : List ℕ) (told : Entry) → entry_at line ≡ Some told → line ≡ entry_line told
unfolding entry_at
entry-line line told is = read_by-line entry_json entry_in line told is

pub end-line : (line : List ℕ) (size : ℕ) → end_of line ≡ Some size → line ≡ end_line size
unfolding end_of
end-line line size is = read_by-line end_json (λ d. Some (end_in d)) line size is

-- ---- cut as they were written

cut-text : (line : List ℕ) (d : json.Data) (rest : List ℕ) → line ≡ compact_text d → next_line (with_lf line ++ rest) ≡ Some (line, rest)
cut-text line d rest is = subst (λ (l : List ℕ). next_line (with_lf l ++ rest) ≡ Some (l, rest)) (sym is) (cut-written d rest)

pub end-cut : (line rest : List ℕ) (size : ℕ) → end_of line ≡ Some size → next_line (with_lf line ++ rest) ≡ Some (line, rest)
end-cut line rest size is = cut-text line (end_json size) rest (end-line line size is)

pub right-cut : (here : Place) (line rest : List ℕ) (next : Place) → IsRight here line next → next_line (with_lf line ++ rest) ≡ Some (line, rest)
right-cut First line rest next right = by_header (header_of line) refl right where
  by_header : (found : Option Header) → header_of line ≡ found → IsSomeAnd found (λ header. next ≡ after_rows header.hands header.rows []) → next_line (with_lf line ++ rest) ≡ Some (line, rest)
  by_header None here is = absurd is
  by_header (Some header) here is = cut-text line (header_form header) rest (header-line line header here)
right-cut (Rows hands left works) line rest next right = by_record (record_in works line) refl right where
  by_record : (found : Option Record) → record_in works line ≡ found → IsSomeAnd found (λ work. next ≡ after_rows hands (left - 1) (works ++ work ∷ []))
      → next_line (with_lf line ++ rest) ≡ Some (line, rest)
  by_record None here is = absurd is
  by_record (Some work) here is =
      let row = record_in-row works line work here in
      cut-text line (row_json row.0) rest (row-line line row.0 row.1)
right-cut (Log s text) line rest next right = cut-text line (entry_json (entry_of right.0)) rest (entry-line line (entry_of right.0) right.1)
