use Rattle.serde_json.specs.Find.{get}
use Rattle.std.proofs.Common.{Some, option_map}
use Rattle.std.specs.Prelude.{codes}
use Rattle.wm_audit_text.proofs.LineValues.{read_by-line}
use Rattle.wm_audit_text.proofs.laws.what_is_read_has_its_line.Goals as goal
use Rattle.wm_audit_text.specs.Entries.{entry_in, entry_json}
use Rattle.wm_audit_text.specs.Headers.{end_in, end_json}
use Rattle.wm_audit_text.specs.Lines.{end_of, entry_at, header_form, header_in, header_of, row_of}
use Rattle.wm_audit_text.specs.StoredRows.{row_in, row_json}

pub returns-clause-header : goal.returns-clause-header
unfolding header_of
returns-clause-header c = λ line header is. read_by-line header_form header_in line header is

pub returns-clause-row : goal.returns-clause-row
unfolding row_of
returns-clause-row c = λ line row is. read_by-line row_json (λ d. option_map row_in (get (codes "row") d)) line row is

pub returns-clause-entry : goal.returns-clause-entry
unfolding entry_at
returns-clause-entry c = λ line told is. read_by-line entry_json entry_in line told is

pub returns-clause-end : goal.returns-clause-end
unfolding end_of
returns-clause-end c = λ line size is. read_by-line end_json (λ d. Some (end_in d)) line size is
