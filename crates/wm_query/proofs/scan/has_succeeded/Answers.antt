use Rattle.std.proofs.Common.{◌≡◌, Some, None, rules, ◌∙◌}
use Rattle.wm_machine.specs.Input.{work_numbered}
use Rattle.wm_query.proofs.NumbersDone.{succeeded-found}
use Rattle.wm_query.proofs.scan.has_succeeded.Goals as goal

pub returns-in-Some : goal.returns-in-Some
returns-in-Some c =
    let works = c.args.works.now in
    let found : Some c.in-Some.work.now ≡ work_numbered c.args.number works = search rules in
    c.is_succeeded.ensures ∙ succeeded-found c.args.number works (Some c.in-Some.work.now) c.requires found

pub returns-in-None : goal.returns-in-None
returns-in-None c =
    let works = c.args.works.now in
    let found : None ≡ work_numbered c.args.number works = search rules in
    succeeded-found c.args.number works None c.requires found
