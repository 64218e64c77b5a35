-- The state that the rows of an audit open to.
use Rattle.std.proofs.Common.{◌≡◌, ℕ, suc, ◌+◌, ◌≤◌, List, [], ◌∷◌, ◌++◌, length, map, nat_le, Option, Some, None, IfSome, option_and_then, Result, Ok, Err, refl, sym, ap, ◌∙◌, subst, leb-true}
use Rattle.std.specs.List.{AllByRecursion}
use Rattle.std.specs.Prelude.{codes}
use Rattle.std.specs.Result.{result_ok}
use Rattle.std.specs.Str.{bytes_eq}
use Rattle.serde_json.specs.Data as json
use Rattle.serde_json.specs.Written.{compact_text}
use Rattle.wm_audit.specs.Happened.{AreOfRows}
use Rattle.wm_audit.specs.Places.{record_in}
use Rattle.wm_audit_text.specs.Fields.{items_at}
use Rattle.wm_audit_text.specs.Headers.{hands_from, hands_in}
use Rattle.wm_audit_text.specs.Lines.{header_form, header_in, header_of, if_spelled, row_of}
use Rattle.wm_audit_text.specs.declared.headers.Header.{Header}
use Rattle.wm_collections.proofs.Options.{either, map_of, tested, then_any}
use Rattle.wm_keeper.specs.declared.row.Row.{Row}
use Rattle.wm_machine.proofs.Openings.{reached-opened}
use Rattle.wm_machine.specs.Opened.{AreFresh, IsFresh, next_number, Opened, opening_state, reopened}
use Rattle.wm_machine.specs.Valid.{AreNumberedInOrder, AreWorks, Valid}
use Rattle.wm_machine.specs.declared.record.Record.{Record}
use Rattle.wm_machine.specs.declared.state.Instance.{Instance}
use Rattle.wm_rows.proofs.StoreRead.{checked_rows, checked_works}
use Rattle.wm_rows.specs.Sound.{◌>>=◌, checked, checked_after, read_after}
use Rattle.wm_rows.specs.declared.fault.RowFault.{RowFault}
use Rattle.wm_script.specs.Lines.{value_of}

-- ---- the hands

hands-many : (number : ℕ) (ds : List json.Data) → length (hands_from number ds) ≡ length ds
hands-many number [] = refl
hands-many number (d ∷ ds) = ap (λ n. suc n) (hands-many (number + 1) ds)

hands-ordered : (number : ℕ) (ds : List json.Data) → AreNumberedInOrder number (hands_from number ds)
hands-ordered number [] = tt
hands-ordered number (d ∷ ds) = (refl, hands-ordered (number + 1) ds)

hands-all : (number : ℕ) (ds : List json.Data) → AllByRecursion IsFresh (hands_from number ds)
hands-all number [] = tt
hands-all number (d ∷ ds) = (record { out = refl; retired = refl }, hands-all (number + 1) ds)

fresh-in : (d : json.Data) → IfSome (hands_in d) AreFresh
unfolding hands_in
fresh-in d =
    let ds = items_at (codes "hands") d in
    tested AreFresh (nat_le (length ds) 10000) (hands_from 0 ds) (λ e.
    let few = leb-true (length ds) 10000 e in
    record {
      few = subst (λ n. n ≤ 10000) (sym (hands-many 0 ds)) few;
      in_order = hands-ordered 0 ds;
      all = hands-all 0 ds;
    })

HasFresh : Header → Type 0
HasFresh header = AreFresh header.hands

fresh-spelled : (line : List ℕ) (found : Option Header) → IfSome found HasFresh → IfSome (if_spelled header_form line found) HasFresh
fresh-spelled line None fresh = tt
fresh-spelled line (Some header) fresh = either HasFresh (bytes_eq (compact_text (header_form header)) line) (Some header) None fresh tt

-- those of a first line are as a run is given them
pub fresh-header : (line : List ℕ) → IfSome (header_of line) (λ header. AreFresh header.hands)
unfolding header_of HasFresh
fresh-header line =
    fresh-spelled line (option_and_then header_in (value_of line))
    (then_any HasFresh header_in (value_of line) (λ d. map_of AreFresh HasFresh _ (hands_in d) (fresh-in d) (λ hands fresh. fresh)))

-- ---- the rows

-- rows after others are checked after those
checked-then : (start : List Record) (done more : List Row) (before : List Record) → checked_after start done ≡ Ok before
    → checked_after start (done ++ more) ≡ checked_after before more
checked-then start [] more before is = let same : start ≡ before = cc in ap (λ works. checked_after works more) same
checked-then start (row ∷ done) more before is = by_first (read_after start row) is (λ work. checked-then (start ++ work ∷ []) done more before) where
  by_first : (first : Result Record RowFault) → (first >>= λ work. checked_after (start ++ work ∷ []) done) ≡ Ok before
      → ((work : Record) → checked_after (start ++ work ∷ []) done ≡ Ok before
      → checked_after (start ++ work ∷ []) (done ++ more) ≡ checked_after before more)
      → (first >>= λ work. checked_after (start ++ work ∷ []) (done ++ more)) ≡ checked_after before more
  by_first (Ok work) is rest = rest work is
  by_first (Err found) is rest = absurd (cc)

pub checked-push : (rows : List Row) (works : List Record) (row : Row) (work : Record) → checked rows ≡ Ok works → read_after works row ≡ Ok work
    → checked (rows ++ row ∷ []) ≡ Ok (works ++ work ∷ [])
checked-push rows works row work sound here =
    checked-then [] rows (row ∷ []) works sound ∙ ap (λ (first : Result Record RowFault). first >>= λ w. Ok (works ++ w ∷ [])) here

-- a line of a record has the row that is read as it
pub record_in-row : (works : List Record) (line : List ℕ) (work : Record) → record_in works line ≡ Some work
    → (row : Row) × (row_of line ≡ Some row) × (read_after works row ≡ Ok work)
record_in-row works line work is = by_row (row_of line) refl is where
  by_record : (row : Row) (found : Result Record RowFault) → read_after works row ≡ found → result_ok found ≡ Some work → read_after works row ≡ Ok work
  by_record row (Ok other) here is = let same : other ≡ work = cc in here ∙ ap Ok same
  by_record row (Err fault) here is = absurd (cc)

  by_row : (found : Option Row) → row_of line ≡ found → option_and_then (λ row. result_ok (read_after works row)) found ≡ Some work
      → (row : Row) × (row_of line ≡ Some row) × (read_after works row ≡ Ok work)
  by_row None here is = absurd (cc)
  by_row (Some row) here is = (row, here, by_record row (read_after works row) refl is)

pub of_rows-push : (works : List Record) (line : List ℕ) (work : Record) → AreOfRows works → record_in works line ≡ Some work → AreOfRows (works ++ work ∷ [])
of_rows-push works line work sound is =
    let found = record_in-row works line work is in
    (sound.0 ++ found.0 ∷ [], checked-push sound.0 works found.0 work sound.1 found.2)

pub of_rows-works : (works : List Record) → AreOfRows works → AreWorks (next_number works) works
of_rows-works works sound = checked_works sound.0 works sound.1

-- ---- the state

pub opened-by : (rows : List Row) (works : List Record) (hands : List Instance) → AreFresh hands → checked rows ≡ Ok works
    → Opened rows hands (opening_state (map reopened works) hands)
opened-by rows works hands fresh is =
    record { stored = works; rows_are_theirs = checked_rows rows works is; sound = checked_works rows works is; fresh = fresh; state = refl }

pub opened-valid : (works : List Record) (hands : List Instance) → AreFresh hands → AreOfRows works → Valid (opening_state (map reopened works) hands)
opened-valid works hands fresh sound =
    reached-opened sound.0 hands (opening_state (map reopened works) hands) (opened-by sound.0 works hands fresh sound.1)
