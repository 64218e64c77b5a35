use Rattle.std.proofs.Common.{◌++◌, ◌∷◌, [], ap, ◌∙◌}
use Rattle.wm_callers_program.proofs.Making.{made-called}
use Rattle.wm_callers_program.specs.Made.{lines_by}
use Rattle.wm_callers_program.proofs.serving.call_line.Goals as goal

pub returns-in-Ok-clause-ok : goal.returns-in-Ok-clause-ok
returns-in-Ok-clause-ok g c =
    made-called c.line.inside.number c.line.inside.command c.in-Ok.receipt c.args.pass.now c.call.new.pass c.in-Ok.ensures.ok c.requires.own
    ∙ ap (λ line. lines_by c.args.pass.now ++ line ∷ []) c.line.view_is
