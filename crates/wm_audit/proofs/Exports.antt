-- What is exported is the audit of a run.
use Rattle.std.proofs.Common.{◌≡◌, ℕ, List, length, map, IfOk, OnOk, Result, Ok, Err, sym, ap, ◌∙◌, subst}
use Rattle.std.specs.List.{AllByRecursion}
use Rattle.wm_audit.specs.Exported.{IsAuditOf, IsOpened}
use Rattle.wm_audit_text.specs.Audits.{audit_text, IsSpelled}
use Rattle.wm_audit_text.specs.Lines.{HasCanonical}
use Rattle.wm_collections.proofs.Lists.{All-map}
use Rattle.wm_keeper.specs.declared.row.Row.{Row}
use Rattle.wm_machine.proofs.Openings.{reached-opened}
use Rattle.wm_machine.specs.Opened.{AreFresh}
use Rattle.wm_machine.specs.Replay.{Replay}
use Rattle.wm_machine.specs.Rows.{row_of, rows_of}
use Rattle.wm_machine.specs.Valid.{IsRecord, Valid}
use Rattle.wm_machine.specs.declared.event.Event.{Event}
use Rattle.wm_machine.specs.declared.record.Record.{Record}
use Rattle.wm_machine.specs.declared.state.Instance.{Instance}
use Rattle.wm_machine.specs.declared.state.State.{State}
use Rattle.wm_opening.proofs.OpenedAgain.{opened-again}
use Rattle.wm_opening.proofs.QuietRecords.{sound-kept}
use Rattle.wm_texts.specs.Texts.{log_text}

pub opened-is-valid : (first : State) → IsOpened first → Valid first
opened-is-valid first opened = reached-opened opened.rows first.instances first opened.opened

pub row-ids : (works : List Record) → AllByRecursion IsRecord works → AllByRecursion (λ (row : Row). length row.id ≡ 16) (map row_of works)
row-ids works are = All-map (λ (row : Row). length row.id ≡ 16) row_of works (λ work is. is.request.id) are

pub exported-audit : (first last : State) (log : List Event) (text : List ℕ) (rows : List Row) (hands : List Instance) (bytes : List ℕ) → IsOpened first
    → AllByRecursion HasCanonical log → rows ≡ rows_of first → hands ≡ first.instances → bytes ≡ audit_text rows hands log text
    → (AreFresh hands → AllByRecursion HasCanonical log → IsSpelled rows hands log text) → Replay first log last → text ≡ log_text first log
    → IsAuditOf bytes last
exported-audit first last log text rows hands bytes opened canonical rows_are hands_are whole spelled replay written =
    let fresh = opened.opened.fresh in
    let told = spelled (subst AreFresh (sym hands_are) fresh) canonical in
    record {
      rows = rows_of first;
      hands = first.instances;
      log = log;
      first = first;
      whole = whole ∙ ap (λ rows. audit_text rows hands log text) rows_are ∙ ap (λ hands. audit_text (rows_of first) hands log text) hands_are
          ∙ ap (audit_text (rows_of first) first.instances log) written;
      spelled = subst (λ text. IsSpelled (rows_of first) first.instances log text) written
          (subst (λ hands. IsSpelled (rows_of first) hands log text) hands_are (subst (λ rows. IsSpelled rows hands log text) rows_are told));
      sound = sound-kept first (opened-is-valid first opened);
      opened = opened-again opened.rows first.instances first opened.opened;
      replay = replay;
    }

-- what follows of two clauses of a call that has done its work
pub ok-with : {T E Q : Type 0} {P R : T → Type 0} (r : Result T E) → ((x : T) → P x → Q → R x) → IfOk r P → OnOk r Q → IfOk r R
ok-with (Ok x) step p q = step x p q
ok-with (Err e) step p q = tt
