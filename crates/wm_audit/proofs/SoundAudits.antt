-- What is sound is the audit of a run.
use Rattle.std.proofs.Common.{◌≡◌, ℕ, zero, suc, ◌+◌, ◌-◌, List, [], ◌∷◌, ◌++◌, length, map, Option, Some, None, IfSome, Ok, refl, sym, ap, ◌∙◌, subst, append_assoc, arith}
use Rattle.std.proofs.lemmas.List.{append-nil}
use Rattle.std.specs.List.{AllByRecursion}
use Rattle.std.specs.Prelude.{IsSomeAnd}
use Rattle.wm_audit.proofs.Lines.{end-line, entry-line, header-line, row-line}
use Rattle.wm_audit.proofs.Openings.{fresh-header, opened-by, record_in-row}
use Rattle.wm_audit.specs.Exported.{IsAuditOf}
use Rattle.wm_audit.specs.Places.{after_rows, joined, record_in, AreRight}
use Rattle.wm_audit.specs.Verdicts.{AllRight, IsVerdict}
use Rattle.wm_audit.specs.declared.place.Place.{Place}
use Rattle.wm_audit.specs.declared.place.Place.TheVariants.{First, Log}
use Rattle.wm_audit.specs.declared.verdict.Verdict.TheVariants.{Sound}
use Rattle.wm_audit_text.specs.Audits.{event_lines, row_lines, with_lf}
use Rattle.wm_audit_text.specs.Entries.{entry_of}
use Rattle.wm_audit_text.specs.Lines.{end_line, end_of, entry_line, entry_at, event_line, header_line, header_of, row_line, row_of, IsTold, IsToldRow}
use Rattle.wm_audit_text.specs.declared.headers.Header.{Header}
use Rattle.wm_keeper.specs.declared.row.Row.{Row}
use Rattle.wm_machine.specs.Opened.{opening_state, reopened, AreFresh}
use Rattle.wm_machine.specs.Replay.{Replay}
use Rattle.wm_machine.specs.Step.{after}
use Rattle.wm_machine.specs.declared.event.Event.{Event}
use Rattle.wm_machine.specs.declared.event.Event.TheVariants as event
use Rattle.wm_machine.specs.declared.record.Record.{Record}
use Rattle.wm_machine.specs.declared.state.Instance.{Instance}
use Rattle.wm_machine.specs.declared.state.State.{State}
use Rattle.wm_rows.specs.Sound.{checked_after, read_after}
use Rattle.wm_texts.specs.Texts.{event_text, log_text}

-- ---- the events

pub record EventsRead (s : State) (text : List ℕ) (lines : List (List ℕ)) (last : State) (all : List ℕ) : Type 0 where
  pub log : List Event
  pub replay : Replay s log last
  pub text_is : all ≡ text ++ log_text s log
  pub told : AllByRecursion IsTold log
  pub whole : joined lines ≡ event_lines log

-- the line of an event is that of what it tells
told-line : (e : Event) → entry_line (entry_of e) ≡ event_line e
told-line (event.Command line asked answer) = refl
told-line (event.Start run seq instance input) = refl
told-line (event.StartFailed seq cause) = refl
told-line (event.Turn run progress) = refl
told-line (event.Finish run end) = refl
told-line (event.TimedOut run) = refl
told-line (event.Late run) = refl

events-read : (s : State) (text : List ℕ) (lines : List (List ℕ)) (last : State) (all : List ℕ) → AreRight (Log s text) lines (Log last all)
    → EventsRead s text lines last all
events-read s text [] last all right =
    let state : last ≡ s = cc in
    let same : all ≡ text = cc in
    record { log = []; replay = state; text_is = same ∙ sym (append-nil text); told = tt; whole = refl }
events-read s text (line ∷ lines) last all right =
    let e = right.1.0 in
    let here = event_text s e (after s e) in
    let then = subst (λ (p : Place). AreRight p lines (Log last all)) right.1.3 right.2 in
    let rest = events-read (after s e) (text ++ here) lines last all then in
    let is : line ≡ event_line e = entry-line line (entry_of e) right.1.1 ∙ told-line e in
    record {
      log = e ∷ rest.log;
      replay = (right.1.2, rest.replay);
      text_is = rest.text_is ∙ append_assoc text here (log_text (after s e) rest.log);
      told = (subst (λ (l : List ℕ). entry_at l ≡ Some (entry_of e)) is right.1.1, rest.told);
      whole = ap (λ (l : List ℕ). with_lf l ++ joined lines) is ∙ ap (λ (l : List ℕ). with_lf (event_line e) ++ l) rest.whole;
    }

-- ---- the rows

pub record RowsRead (hands : List Instance) (left : ℕ) (before : List Record) (lines : List (List ℕ)) (last : State) (all : List ℕ) : Type 0 where
  pub rows : List Row
  pub works : List Record
  pub many : length rows ≡ left
  pub sound : checked_after before rows ≡ Ok works
  pub rows_told : AllByRecursion IsToldRow rows
  pub log : List Event
  pub replay : Replay (opening_state (map reopened works) hands) log last
  pub text_is : all ≡ log_text (opening_state (map reopened works) hands) log
  pub log_told : AllByRecursion IsTold log
  pub whole : joined lines ≡ row_lines rows ++ event_lines log

rows-over : (hands : List Instance) (before : List Record) (lines : List (List ℕ)) (last : State) (all : List ℕ)
    → EventsRead (opening_state (map reopened before) hands) [] lines last all → RowsRead hands 0 before lines last all
rows-over hands before lines last all read = record {
  rows = [];
  works = before;
  many = refl;
  sound = refl;
  rows_told = tt;
  log = read.log;
  replay = read.replay;
  text_is = read.text_is;
  log_told = read.told;
  whole = read.whole;
}

row-before : (hands : List Instance) (left : ℕ) (before : List Record) (line : List ℕ) (lines : List (List ℕ)) (last : State) (all : List ℕ) (row : Row)
    (work : Record) → row_of line ≡ Some row → read_after before row ≡ Ok work → RowsRead hands left (before ++ work ∷ []) lines last all
    → RowsRead hands (suc left) before (line ∷ lines) last all
row-before hands left before line lines last all row work is here read =
    let line_is = row-line line row is in
    record {
      rows = row ∷ read.rows;
      works = read.works;
      many = ap (λ n. suc n) read.many;
      sound = rw here read.sound;
      rows_told = (subst (λ (l : List ℕ). row_of l ≡ Some row) line_is is, read.rows_told);
      log = read.log;
      replay = read.replay;
      text_is = read.text_is;
      log_told = read.log_told;
      whole = ap (λ (l : List ℕ). with_lf l ++ joined lines) line_is ∙ ap (λ (l : List ℕ). with_lf (row_line row) ++ l) read.whole
          ∙ sym (append_assoc (with_lf (row_line row)) (row_lines read.rows) (event_lines read.log));
    }

rows-read : (hands : List Instance) (left : ℕ) (before : List Record) (lines : List (List ℕ)) (last : State) (all : List ℕ)
    → AreRight (after_rows hands left before) lines (Log last all) → RowsRead hands left before lines last all
rows-read hands zero before lines last all right =
    rows-over hands before lines last all (events-read (opening_state (map reopened before) hands) [] lines last all right)
rows-read hands (suc left) before [] last all right = absurd (cc)
rows-read hands (suc left) before (line ∷ lines) last all right =
    by_record (record_in before line) refl right.1 (λ work. rows-read hands left (before ++ work ∷ []) lines last all) where
      by_record : (found : Option Record) → record_in before line ≡ found
          → IsSomeAnd found (λ work. right.0 ≡ after_rows hands (suc left - 1) (before ++ work ∷ []))
          → ((work : Record) → AreRight (after_rows hands left (before ++ work ∷ [])) lines (Log last all) → RowsRead hands left (before ++ work ∷ []) lines last all)
          → RowsRead hands (suc left) before (line ∷ lines) last all
      by_record None here is rest = absurd is
      by_record (Some work) here is rest =
          let found = record_in-row before line work here in
          let fewer : suc left - 1 ≡ left = omega arith in
          let next = is ∙ ap (λ n. after_rows hands n (before ++ work ∷ [])) fewer in
          row-before hands left before line lines last all found.0 work found.1 found.2
          (rest work (subst (λ (p : Place). AreRight p lines (Log last all)) next right.2))

-- ---- all of it

first-read : (bytes : List ℕ) (last : State) (text : List ℕ) (all : AllRight bytes last text text) (lines : List (List ℕ)) → AreRight First lines (Log last text)
    → bytes ≡ joined lines ++ (with_lf all.end ++ text) → IsAuditOf bytes last
first-read bytes last text all [] right whole = absurd (cc)
first-read bytes last text all (line ∷ lines) right whole = by_header (header_of line) refl (fresh-header line) right.1 where
  by_header : (found : Option Header) → header_of line ≡ found → IfSome found (λ header. AreFresh header.hands)
      → IsSomeAnd found (λ header. right.0 ≡ after_rows header.hands header.rows []) → IsAuditOf bytes last
  by_header None here fresh is = absurd is
  by_header (Some header) here fresh is =
      let hands = header.hands in
      let read = rows-read hands header.rows [] lines last text (subst (λ (p : Place). AreRight p lines (Log last text)) is right.2) in
      let first = opening_state (map reopened read.works) hands in
      let line_is : line ≡ header_line hands (length read.rows) = header-line line header here ∙ ap (header_line hands) (sym read.many) in
      let size : length text ≡ length (log_text first read.log) = ap length read.text_is in
      let end_is : all.end ≡ end_line (length (log_text first read.log)) = end-line all.end (length text) all.ends ∙ ap end_line size in
      let rows = row_lines read.rows in
      let events = event_lines read.log in
      let behind = with_lf all.end ++ text in
      record {
        rows = read.rows;
        hands = hands;
        log = read.log;
        first = first;
        whole = whole ∙ append_assoc (with_lf line) (joined lines) behind ∙ ap (λ (l : List ℕ). with_lf l ++ (joined lines ++ behind)) line_is
            ∙ ap (λ (l : List ℕ). with_lf (header_line hands (length read.rows)) ++ l)
            (ap (λ (l : List ℕ). l ++ behind) read.whole ∙ append_assoc rows events behind
            ∙ ap (λ (l : List ℕ). rows ++ (events ++ (with_lf l ++ text))) end_is
            ∙ ap (λ (l : List ℕ). rows ++ (events ++ (with_lf (end_line (length (log_text first read.log))) ++ l))) read.text_is);
        spelled = record {
          header = subst (λ (l : List ℕ). header_of l ≡ Some (record { hands = hands; rows = length read.rows })) line_is
              (here ∙ ap (λ n. Some (record { hands = hands; rows = n })) (sym read.many));
          rows_told = read.rows_told;
          log_told = read.log_told;
          end = subst (λ (l : List ℕ). end_of l ≡ Some (length (log_text first read.log))) end_is (all.ends ∙ ap Some size);
        };
        sound = (read.works, read.sound);
        opened = opened-by read.rows read.works hands fresh read.sound;
        replay = read.replay;
      }

pub sound-audit : (bytes : List ℕ) (last : State) → IsVerdict bytes (Sound last) → IsAuditOf bytes last
sound-audit bytes last sound =
    let reached = sound.1.reached in first-read bytes last sound.0 sound.1 reached.lines reached.right reached.whole
