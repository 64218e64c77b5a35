-- The lines of an audit, and what is read of each. There is one spelling: what is read has just that line.
use Rattle.std.specs.Prelude.{◌≡◌, ℕ, List, codes, if◌then◌else◌, Option, Some, None, option_and_then, option_map}
use Rattle.std.specs.Str.{bytes_eq}
use Rattle.serde_json.specs.Data as json
use Rattle.serde_json.specs.Find.{get}
use Rattle.serde_json.specs.Written.{compact_text}
use Rattle.wm_audit_text.specs.Entries.{entry_in, entry_json, entry_of, event_json}
use Rattle.wm_audit_text.specs.Headers.{end_in, end_json, hands_in, header_json}
use Rattle.wm_audit_text.specs.StoredRows.{row_in, row_json}
use Rattle.wm_audit_text.specs.Fields.{number_at}
use Rattle.wm_audit_text.specs.declared.entry.Entry.{Entry}
use Rattle.wm_audit_text.specs.declared.entry.Entry.TheVariants as entry
use Rattle.wm_audit_text.specs.declared.headers.Header.{Header}
use Rattle.wm_keeper.specs.declared.row.Row.{Row}
use Rattle.wm_machine.specs.Outcome.{IsAskable}
use Rattle.wm_machine.specs.declared.event.Event.{Event}
use Rattle.wm_machine.specs.declared.event.Event.TheVariants as event
use Rattle.wm_machine.specs.declared.state.Instance.{Instance}
use Rattle.wm_script.specs.Lines.{value_of}
use Rattle.wm_spelling.specs.Commands.{IsCanonical}

-- ---- written, without their LF

abbrev pub header_line : List Instance → ℕ → List ℕ
header_line hands rows = compact_text (header_json hands rows)

abbrev pub row_line : Row → List ℕ
row_line row = compact_text (row_json row)

abbrev pub event_line : Event → List ℕ
event_line e = compact_text (event_json e)

abbrev pub entry_line : Entry → List ℕ
entry_line told = compact_text (entry_json told)

abbrev pub end_line : ℕ → List ℕ
end_line size = compact_text (end_json size)

-- ---- read

-- what is read, where the line is its spelling
abbrev pub if_spelled : {T : Type 0} → (T → json.Data) → List ℕ → Option T → Option T
if_spelled form line None = None
if_spelled form line (Some x) = if bytes_eq (compact_text (form x)) line then Some x else None

-- what a reader gives of a line that is the spelling of it
abbrev pub read_by : {T : Type 0} → (T → json.Data) → (json.Data → Option T) → List ℕ → Option T
read_by form reader line = if_spelled form line (option_and_then reader (value_of line))

abbrev pub header_form : Header → json.Data
header_form header = header_json header.hands header.rows

abbrev pub header_in : json.Data → Option Header
header_in d = option_map (λ hands. record { hands = hands; rows = number_at (codes "rows") d }) (hands_in d)

unfoldable pub header_of : List ℕ → Option Header
header_of line = read_by header_form header_in line

unfoldable pub row_of : List ℕ → Option Row
row_of line = read_by row_json (λ d. option_map row_in (get (codes "row") d)) line

unfoldable pub entry_at : List ℕ → Option Entry
entry_at line = read_by entry_json entry_in line

unfoldable pub end_of : List ℕ → Option ℕ
end_of line = read_by end_json (λ d. Some (end_in d)) line

-- ---- what is spelled so that it is read again

abbrev pub IsHeaderOf : List Instance → ℕ → Type 0
IsHeaderOf hands rows = header_of (header_line hands rows) ≡ Some (record { hands = hands; rows = rows })

abbrev pub IsToldRow : Row → Type 0
IsToldRow row = row_of (row_line row) ≡ Some row

abbrev pub IsTold : Event → Type 0
IsTold e = entry_at (event_line e) ≡ Some (entry_of e)

-- the command of an event, where it has one, is canonical
abbrev pub HasCanonical : Event → Type 0
HasCanonical (event.Command line asked reply) = IsCanonical asked
HasCanonical e = Unit {0}

-- an event is told by its line, where its command is canonical
unfoldable pub IsToldCanonical : Event → Type 0
IsToldCanonical e = HasCanonical e → IsTold e

-- what a line tells may be told: a command may be asked, and another event isn't one of a command
abbrev pub MayBeTold : Entry → Type 0
MayBeTold (entry.Command line asked) = IsAskable asked
MayBeTold (entry.Run e) = entry_of e ≡ entry.Run e
