use Rattle.std.proofs.Common.{◌≡◌, Some, None, rules}
use Rattle.std.proofs.lemmas.Result.{on_ok_weaker}
use Rattle.wm_machine.specs.Input.{work_numbered}
use Rattle.wm_machine.specs.Queried.{matches}
use Rattle.wm_settings.proofs.FoundAnswers.{numbered-none, numbered-some}
use Rattle.wm_settings.proofs.answering.add_numbered.Goals as goal

pub returns-in-Some : goal.returns-in-Some
returns-in-Some c =
    let works = c.args.view.now.works in
    let found : Some c.in-Some.work.now ≡ work_numbered c.args.number works = search rules in
    on_ok_weaker c.add_told.result
    (numbered-some (matches c.args.query.now) works c.args.number c.in-Some.work.now c.args.told.now c.add_told.new.told found) c.add_told.ensures

pub returns-in-None : goal.returns-in-None
returns-in-None c =
    let works = c.args.view.now.works in
    let none : None ≡ work_numbered c.args.number works = search rules in
    numbered-none (matches c.args.query.now) works c.args.number c.args.told.now none
