use Rattle.std.proofs.Common.{◌∙◌, ap, set}
use Rattle.std.proofs.lemmas.Result.{on_ok_weaker}
use Rattle.wm_callers_program.proofs.Dealing.{set-line}
use Rattle.wm_callers_program.proofs.line.add.Goals as goal

pub returns : goal.returns
returns c =
    on_ok_weaker c.push.result
    (λ pushed. ap (set c.args.lots.now c.args.place) pushed ∙ set-line c.args.line c.args.place c.args.lots.now c.index-lots-place.result c.requires) c.push.ensures
