-- The whole text of an audit, and how it is cut into lines.
use Rattle.std.specs.Prelude.{◌≡◌, ℕ, ◌==◌, List, [], ◌∷◌, ◌++◌, length, if◌then◌else◌, Option, Some, None, option_map}
use Rattle.std.specs.List.{AllByRecursion}
use Rattle.wm_audit_text.specs.Lines.{end_line, end_of, event_line, header_line, row_line, IsHeaderOf, IsTold, IsToldRow}
use Rattle.wm_keeper.specs.declared.row.Row.{Row}
use Rattle.wm_machine.specs.declared.event.Event.{Event}
use Rattle.wm_machine.specs.declared.state.Instance.{Instance}

-- a line with its LF
abbrev pub with_lf : List ℕ → List ℕ
with_lf line = line ++ 10 ∷ []

-- lines one after another, each with its LF
abbrev pub row_lines : List Row → List ℕ
row_lines [] = []
row_lines (row ∷ rows) = with_lf (row_line row) ++ row_lines rows

abbrev pub event_lines : List Event → List ℕ
event_lines [] = []
event_lines (e ∷ log) = with_lf (event_line e) ++ event_lines log

-- the header, the rows, the events, the end, and then the text
abbrev pub audit_text : List Row → List Instance → List Event → List ℕ → List ℕ
audit_text rows hands log text =
    with_lf (header_line hands (length rows)) ++ (row_lines rows ++ (event_lines log ++ (with_lf (end_line (length text)) ++ text)))

-- what is spelled so that it is read again: the first line, each row and each event, and the line before the text
pub record IsSpelled (rows : List Row) (hands : List Instance) (log : List Event) (text : List ℕ) : Type 0 where
  pub header : IsHeaderOf hands (length rows)
  pub rows_told : AllByRecursion IsToldRow rows
  pub log_told : AllByRecursion IsTold log
  pub end : end_of (end_line (length text)) ≡ Some (length text)

-- the first line of bytes, without its LF, and what stands after that; none where there is no LF
abbrev pub next_line : List ℕ → Option (List ℕ × List ℕ)
next_line [] = None
next_line (byte ∷ bytes) =
    if byte == 10 then Some ([], bytes) else option_map (λ cut. (byte ∷ cut.0, cut.1)) (next_line bytes)
