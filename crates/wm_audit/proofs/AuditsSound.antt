-- The audit of a run is sound.
use Rattle.std.proofs.Common.{◌≡◌, ℕ, ◌+◌, ◌-◌, List, [], ◌∷◌, ◌++◌, length, map, Some, Result, Ok, Err, refl, sym, ap, ◌∙◌, subst, append_assoc, arith}
use Rattle.std.proofs.lemmas.List.{append-nil}
use Rattle.std.specs.List.{AllByRecursion}
use Rattle.std.specs.Prelude.{IsSomeAnd}
use Rattle.wm_audit.proofs.Openings.{opened-by}
use Rattle.wm_audit.specs.Exported.{IsAuditOf}
use Rattle.wm_audit.specs.Places.{after_rows, joined, record_in, AreRight, IsRight}
use Rattle.wm_audit.specs.Verdicts.{AllRight, IsVerdict}
use Rattle.wm_audit.specs.declared.place.Place.{Place}
use Rattle.wm_audit.specs.declared.place.Place.TheVariants.{First, Log}
use Rattle.wm_audit.specs.declared.verdict.Verdict.TheVariants.{Sound}
use Rattle.wm_audit_text.specs.Audits.{event_lines, row_lines, with_lf}
use Rattle.wm_audit_text.specs.Lines.{end_line, event_line, header_line, row_line, IsTold, IsToldRow}
use Rattle.wm_keeper.specs.declared.row.Row.{Row}
use Rattle.wm_machine.specs.Opened.{opening_state, reopened}
use Rattle.wm_machine.specs.Replay.{Replay}
use Rattle.wm_machine.specs.Step.{after}
use Rattle.wm_machine.specs.declared.event.Event.{Event}
use Rattle.wm_machine.specs.declared.record.Record.{Record}
use Rattle.wm_machine.specs.declared.state.Instance.{Instance}
use Rattle.wm_machine.specs.declared.state.State.{State}
use Rattle.wm_opening.proofs.QuietRecords.{opened-once}
use Rattle.wm_rows.specs.Sound.{◌>>=◌, checked_after, read_after}
use Rattle.wm_rows.specs.declared.fault.RowFault.{RowFault}
use Rattle.wm_texts.specs.Texts.{event_text, log_text}

-- ---- lines after one another

pub joined-append : (one other : List (List ℕ)) → joined (one ++ other) ≡ joined one ++ joined other
joined-append [] other = refl
joined-append (line ∷ one) other =
    ap (λ l. with_lf line ++ l) (joined-append one other) ∙ sym (append_assoc (with_lf line) (joined one) (joined other))

joined-rows : (rows : List Row) → joined (map row_line rows) ≡ row_lines rows
joined-rows [] = refl
joined-rows (row ∷ rows) = ap (λ l. with_lf (row_line row) ++ l) (joined-rows rows)

joined-events : (log : List Event) → joined (map event_line log) ≡ event_lines log
joined-events [] = refl
joined-events (e ∷ log) = ap (λ l. with_lf (event_line e) ++ l) (joined-events log)

right-append : (here : Place) (one other : List (List ℕ)) (now last : Place) → AreRight here one now → AreRight now other last
    → AreRight here (one ++ other) last
right-append here [] other now last are then = subst (λ (p : Place). AreRight p other last) are then
right-append here (line ∷ one) other now last are then = (are.0, are.1, right-append are.0 one other now last are.2 then)

-- ---- the rows

rows-right : (hands : List Instance) (before : List Record) (rows : List Row) (works : List Record) → checked_after before rows ≡ Ok works
    → AllByRecursion IsToldRow rows → AreRight (after_rows hands (length rows) before) (map row_line rows) (Log (opening_state (map reopened works) hands) [])
rows-right hands before [] works is told = let same : before ≡ works = cc in ap (λ (l : List Record). Log (opening_state (map reopened l) hands) []) (sym same)
rows-right hands before (row ∷ rows) works is told =
    by_first (read_after before row) refl is (λ work. rows-right hands (before ++ work ∷ []) rows works) where
      by_first : (first : Result Record RowFault) → read_after before row ≡ first → (first >>= λ work. checked_after (before ++ work ∷ []) rows) ≡ Ok works
          → ((work : Record) → checked_after (before ++ work ∷ []) rows ≡ Ok works → AllByRecursion IsToldRow rows
          → AreRight (after_rows hands (length rows) (before ++ work ∷ [])) (map row_line rows) (Log (opening_state (map reopened works) hands) []))
          → AreRight (after_rows hands (length (row ∷ rows)) before) (map row_line (row ∷ rows)) (Log (opening_state (map reopened works) hands) [])
      by_first (Ok work) here is rest =
          let left : length (row ∷ rows) - 1 ≡ length rows = omega arith in
          let found : record_in before (row_line row) ≡ Some work = rw (told.0, here) refl in
          let right : IsSomeAnd (record_in before (row_line row)) (λ w. after_rows hands (length rows) (before ++ work ∷ []) ≡ after_rows hands (length (row ∷ rows) - 1) (before ++ w ∷ [])) =
          rw found (ap (λ n. after_rows hands n (before ++ work ∷ [])) (sym left)) in
          (after_rows hands (length rows) (before ++ work ∷ []), right, rest work is told.1)
      by_first (Err fault) here is rest = absurd (cc)

-- ---- the events

events-right : (s : State) (text : List ℕ) (log : List Event) (last : State) → Replay s log last → AllByRecursion IsTold log
    → AreRight (Log s text) (map event_line log) (Log last (text ++ log_text s log))
events-right s text [] last replay told = ap (λ (t : State). Log t (text ++ [])) replay ∙ ap (λ (l : List ℕ). Log s l) (append-nil text)
events-right s text (e ∷ log) last replay told =
    let here = event_text s e (after s e) in
    let rest = events-right (after s e) (text ++ here) log last replay.1 told.1 in
    let more = log_text (after s e) log in (
      Log (after s e) (text ++ here),
      (e, told.0, replay.0, refl),
      subst (λ (l : List ℕ). AreRight (Log (after s e) (text ++ here)) (map event_line log) (Log last l)) (append_assoc text here more) rest,
    )

-- ---- all of it

pub audit-sound : (bytes : List ℕ) (last : State) → IsAuditOf bytes last → IsVerdict bytes (Sound last)
audit-sound bytes last audit =
    let rows = audit.rows in
    let hands = audit.hands in
    let log = audit.log in
    let works = audit.sound.0 in
    let text = log_text audit.first log in
    let opened = opening_state (map reopened works) hands in
    let same : audit.first ≡ opened =
    opened-once rows hands audit.first opened audit.opened (opened-by rows works hands audit.opened.fresh audit.sound.1) in
    let header = header_line hands (length rows) in
    let end = end_line (length text) in
    let lines = header ∷ (map row_line rows ++ map event_line log) in
    let rows_are = rows-right hands [] rows works audit.sound.1 audit.spelled.rows_told in
    let events_are =
    subst (λ (s : State). AreRight (Log s []) (map event_line log) (Log last text)) same (events-right audit.first [] log last audit.replay audit.spelled.log_told) in
    let is_header : IsRight First header (after_rows hands (length rows) []) = rw audit.spelled.header refl in
    let right : AreRight First lines (Log last text) = (
      after_rows hands (length rows) [],
      is_header,
      right-append (after_rows hands (length rows) []) (map row_line rows) (map event_line log) (Log opened []) (Log last text) rows_are events_are,
    ) in
    let behind = with_lf end ++ text in
    let whole : bytes ≡ joined lines ++ behind =
    audit.whole ∙ sym (append_assoc (with_lf header) (joined (map row_line rows ++ map event_line log)) behind
    ∙ ap (λ (l : List ℕ). with_lf header ++ l)
    (ap (λ (l : List ℕ). l ++ behind) (joined-append (map row_line rows) (map event_line log)
    ∙ ap (λ (l : List ℕ). l ++ joined (map event_line log)) (joined-rows rows)
    ∙ ap (λ (l : List ℕ). row_lines rows ++ l) (joined-events log))
    ∙ append_assoc (row_lines rows) (event_lines log) behind)) in
    let all : AllRight bytes last text text =
    record {
      number = length lines + 1;
      end = end;
      reached = record { lines = lines; whole = whole; number_is = refl; right = right };
      ends = audit.spelled.end;
    } in
    (text, all)
