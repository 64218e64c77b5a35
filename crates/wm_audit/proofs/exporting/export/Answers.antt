use Rattle.std.proofs.Common.{◌≡◌, length, map, sym, ap, ◌∙◌, subst}
use Rattle.std.specs.List.{AllByRecursion}
use Rattle.wm_audit.proofs.AuditsSound.{audit-sound}
use Rattle.wm_audit.proofs.Exports.{exported-audit, ok-with, opened-is-valid, row-ids}
use Rattle.wm_keeper.specs.declared.row.Row.{Row}
use Rattle.wm_machine.specs.Rows.{row_of, rows_of}
use Rattle.wm_machine.specs.Valid.{IsRecord}
use Rattle.wm_audit.proofs.exporting.export.Goals as goal

pub stored_rows-requires : goal.stored_rows-requires
stored_rows-requires c =
    subst (AllByRecursion IsRecord) (sym c.as_slice.ensures) (opened-is-valid c.args.first.now c.requires.opened).works.records

pub audit_text-requires : goal.audit_text-requires
audit_text-requires c =
    let rows : c.as_slice-2.result.now ≡ map row_of c.args.first.now.works = c.as_slice-2.ensures ∙ c.in_ok-rows.ensures ∙ ap (map row_of) c.as_slice.ensures in
    subst (AllByRecursion (λ (row : Row). length row.id ≡ 16)) (sym rows)
    (row-ids c.args.first.now.works (opened-is-valid c.args.first.now c.requires.opened).works.records)

pub returns-clause-sound : goal.returns-clause-sound
returns-clause-sound c =
    let first = c.args.first.now in
    let log = c.args.log.now in
    let text = c.args.text.now in
    let rows : c.as_slice-2.result.now ≡ rows_of first = c.as_slice-2.ensures ∙ c.in_ok-rows.ensures ∙ ap (map row_of) c.as_slice.ensures in
    ok-with c.audit_text.result (λ bytes is spelled. λ last replay written. audit-sound bytes.items last (exported-audit first last log text c.as_slice-2.result.now c.as_slice-hands.result.now bytes.items c.requires.opened c.requires.canonical rows c.as_slice-hands.ensures is spelled replay written))
    c.audit_text.ensures.text c.audit_text.ensures.spelled
