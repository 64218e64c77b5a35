-- The lines so far and those of the rows that are left are all, and each row so far is read again.
use Rattle.std.proofs.Common.{◌≡◌, ◌++◌, drop, take}
use Rattle.std.specs.List.{AllByRecursion}
use Rattle.wm_audit_text.specs.Audits.{row_lines}
use Rattle.wm_audit_text.specs.Lines.{IsToldRow}
use Rattle.wm_audit_text.proofs.audits.add_rows.Given as goal

abbrev pub invariant-loop-row : goal.invariant-loop-row
invariant-loop-row l = record {
  lines : l.bytes.items ++ row_lines (drop l.row-index l.rows) ≡ l.fn.bytes.items ++ row_lines l.rows;
  told : AllByRecursion IsToldRow (take l.row-index l.rows);
}
