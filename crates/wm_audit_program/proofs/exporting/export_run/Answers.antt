use Rattle.std.proofs.Common.{◌≡◌, map, subst}
use Rattle.std.specs.Prelude.{string_bytes}
use Rattle.wm_audit_program.proofs.Exports.{HaveCanonical-done, IsExported-done, IsExported-undone, IsOpened-done}
use Rattle.wm_audit_program.specs.Exported.{over_sure}
use Rattle.wm_beginning.specs.Reading.{reads_of}
use Rattle.wm_cli.specs.Run.{IsRun}
use Rattle.wm_ended.specs.Tells.{tells_of}
use Rattle.wm_ended.specs.declared.status.Status.TheVariants.{Done}
use Rattle.wm_audit_program.proofs.exporting.export_run.Goals as goal

-- the run isn't done
pub returns-then-not-is_done : goal.returns-then-not-is_done
returns-then-not-is_done g c =
    let tells = tells_of g.K.Keeper.store g.W.Sink.given g.W.Sink.faults g.B.Worker.kind_of g.B.Worker.diary_of in
    let source = reads_of g.S.Source.left g.S.Source.faults in
    let words = map string_bytes c.args.words.now in
    IsExported-undone tells source words c.args.hands.items c.args.source.now c.run-ended.new.source c.args.keeper c.args.sink c.run-ended.result
    (subst (λ sink. IsRun (over_sure tells) source words c.args.hands.items c.args.source.now c.run-ended.new.source c.args.keeper sink c.run-ended.result)
    c.new-memory.ensures c.run-ended.ensures)
    (λ done. let is = c.is_done.ensures.1 done in absurd (cc))

-- it is done
pub write_audit-status-requires-clause-opened : goal.write_audit-status-requires-clause-opened
write_audit-status-requires-clause-opened g c =
    let tells = tells_of g.K.Keeper.store g.W.Sink.given g.W.Sink.faults g.B.Worker.kind_of g.B.Worker.diary_of in
    let source = reads_of g.S.Source.left g.S.Source.faults in
    let words = map string_bytes c.args.words.now in
    IsOpened-done tells source words c.args.hands.items c.args.source.now c.run-ended.new.source c.args.keeper c.run-ended.result
    (subst (λ sink. IsRun (over_sure tells) source words c.args.hands.items c.args.source.now c.run-ended.new.source c.args.keeper sink c.run-ended.result)
    c.new-memory.ensures c.run-ended.ensures)
    (c.is_done.ensures.0 c.if-not-is_done.false)

pub write_audit-status-requires-clause-canonical : goal.write_audit-status-requires-clause-canonical
write_audit-status-requires-clause-canonical g c =
    let tells = tells_of g.K.Keeper.store g.W.Sink.given g.W.Sink.faults g.B.Worker.kind_of g.B.Worker.diary_of in
    let source = reads_of g.S.Source.left g.S.Source.faults in
    let words = map string_bytes c.args.words.now in
    rw c.as_slice.ensures
    (HaveCanonical-done tells source words c.args.hands.items c.args.source.now c.run-ended.new.source c.args.keeper c.run-ended.result
    (subst (λ sink. IsRun (over_sure tells) source words c.args.hands.items c.args.source.now c.run-ended.new.source c.args.keeper sink c.run-ended.result)
    c.new-memory.ensures c.run-ended.ensures)
    (c.is_done.ensures.0 c.if-not-is_done.false))

pub returns : goal.returns
returns g c =
    let tells = tells_of g.K.Keeper.store g.W.Sink.given g.W.Sink.faults g.B.Worker.kind_of g.B.Worker.diary_of in
    let source = reads_of g.S.Source.left g.S.Source.faults in
    let words = map string_bytes c.args.words.now in
    let done : c.run-ended.result.status ≡ Done = c.is_done.ensures.0 c.if-not-is_done.false in
    IsExported-done tells source words c.args.hands.items c.args.source.now c.run-ended.new.source c.args.keeper c.args.sink c.write_audit-status.new.sink
    c.run-ended.result c.write_audit-status.result
    (subst (λ sink. IsRun (over_sure tells) source words c.args.hands.items c.args.source.now c.run-ended.new.source c.args.keeper sink c.run-ended.result)
    c.new-memory.ensures c.run-ended.ensures)
    done (rw (c.as_slice.ensures, c.bytes-text.ensures) at c.write_audit-status.ensures)
