-- How an audit is read, a line after another: where a line stands, and whether it is right there.
use Rattle.std.specs.Prelude.{◌≡◌, ℕ, ◌-◌, zero, suc, List, [], ◌∷◌, ◌++◌, length, map, Option, Some, None, option_and_then, IsSomeAnd}
use Rattle.std.specs.Result.{result_ok}
use Rattle.wm_audit.specs.declared.place.Place.{Place}
use Rattle.wm_audit.specs.declared.place.Place.TheVariants.{First, Log, Rows}
use Rattle.wm_audit_text.specs.Audits.{with_lf}
use Rattle.wm_audit_text.specs.Entries.{entry_of}
use Rattle.wm_audit_text.specs.Lines.{end_of, entry_at, header_of, row_of}
use Rattle.wm_machine.specs.Opened.{opening_state, reopened}
use Rattle.wm_machine.specs.Step.{after, Legal}
use Rattle.wm_machine.specs.declared.event.Event.{Event}
use Rattle.wm_machine.specs.declared.record.Record.{Record}
use Rattle.wm_machine.specs.declared.state.Instance.{Instance}
use Rattle.wm_rows.specs.Sound.{read_after}
use Rattle.wm_texts.specs.Texts.{event_text}

-- where a line stands after the rows of these records, with so many rows to come
abbrev pub after_rows : List Instance → ℕ → List Record → Place
after_rows hands zero works = Log (opening_state (map reopened works) hands) []
after_rows hands (suc left) works = Rows hands (suc left) works

-- the record of a line of a row, after the rows of these
abbrev pub record_in : List Record → List ℕ → Option Record
record_in works line = option_and_then (λ row. result_ok (read_after works row)) (row_of line)

-- a line is right in its place, and the next one stands there
abbrev pub IsRight : Place → List ℕ → Place → Type 0
IsRight First line next = IsSomeAnd (header_of line) (λ header. next ≡ after_rows header.hands header.rows [])
IsRight (Rows hands left works) line next = IsSomeAnd (record_in works line) (λ work. next ≡ after_rows hands (left - 1) (works ++ work ∷ []))
IsRight (Log s text) line next =
    (e : Event) × (entry_at line ≡ Some (entry_of e)) × Legal s e × (next ≡ Log (after s e) (text ++ event_text s e (after s e)))

-- the next line stands there, or this one isn't right
abbrev pub IsNext : Place → List ℕ → Option Place → Type 0
IsNext here line (Some next) = IsRight here line next
IsNext here line None = (next : Place) → IsRight here line next → ⊥

-- lines that are right, one after another
abbrev pub AreRight : Place → List (List ℕ) → Place → Type 0
AreRight here [] last = last ≡ here
AreRight here (line ∷ lines) last = (next : Place) × IsRight here line next × AreRight next lines last

-- lines, each with its LF
abbrev pub joined : List (List ℕ) → List ℕ
joined [] = []
joined (line ∷ lines) = with_lf line ++ joined lines

-- the last line of an audit, and the bytes after it, which are as many as it says
abbrev pub IsEnd : Place → List ℕ → List ℕ → Type 0
IsEnd (Log s text) line given = end_of line ≡ Some (length given)
IsEnd _ line given = ⊥

-- the place is that of an event or of the last line
abbrev pub IsInLog : Place → Type 0
IsInLog (Log s text) = Unit {0}
IsInLog _ = ⊥
