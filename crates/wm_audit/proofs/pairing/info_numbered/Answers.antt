use Rattle.std.proofs.Common.{◌≡◌, ◌==◌, Some, None, option_map, sym, ap, ◌∙◌}
use Rattle.wm_audit.proofs.Tellings.{find-told}
use Rattle.wm_collections.proofs.Lists.{All-find}
use Rattle.wm_machine.specs.Input.{work_numbered}
use Rattle.wm_machine.specs.Shown.{info_of}
use Rattle.wm_machine.specs.Valid.{IsRecord}
use Rattle.wm_machine.specs.declared.record.Record.{Record}
use Rattle.wm_audit.proofs.pairing.info_numbered.Goals as goal

pub info_of-requires-clause-is_record : goal.info_of-requires-clause-is_record
info_of-requires-clause-is_record c =
    All-find IsRecord (λ (work : Record). work.seq == c.args.number) c.args.works.now c.in-Some.work.now (sym (rw c.in-Some.is at c.work_numbered.ensures))
    c.requires.records

pub returns-in_ok-info_of-in-Some : goal.returns-in_ok-info_of-in-Some
returns-in_ok-info_of-in-Some c =
    let works = c.args.works.now in
    let found : Some c.in-Some.work.now ≡ work_numbered c.args.number works = rw c.in-Some.is at c.work_numbered.ensures in
    ap Some c.in_ok-info_of-in-Some.ensures ∙ ap (option_map (info_of works)) found ∙ sym (find-told works works c.args.number)

pub returns-in-None : goal.returns-in-None
returns-in-None c =
    let works = c.args.works.now in
    let found : None ≡ work_numbered c.args.number works = rw c.in-None.is at c.work_numbered.ensures in
    ap (option_map (info_of works)) found ∙ sym (find-told works works c.args.number)
