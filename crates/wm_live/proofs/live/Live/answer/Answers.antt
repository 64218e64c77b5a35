use Rattle.std.proofs.Common.{◌++◌, refl}
use Rattle.wm_asks.specs.AskTexts.{answer_text}
use Rattle.wm_live.proofs.Lives.{is_told, is_untold}
use Rattle.wm_live.proofs.live.Live.answer.Goals as goal

pub returns-in-Ok-clause-ok : goal.returns-in-Ok-clause-ok
returns-in-Ok-clause-ok g c =
    let stand = c.self.inside.stand in
    rw (← c.self.view_is, c.in-Ok.ensures.ok)
    (is_told c.args.line c.args.answer stand
    (record stand { text = stand.text ++ answer_text c.args.line c.args.answer stand.table.state.hushed }) c.self.invariant.1 refl refl)

pub returns-in-Err-clause-err : goal.returns-in-Err-clause-err
returns-in-Err-clause-err g c =
    rw (← c.self.view_is)
    (is_untold g.K.Keeper.store c.args.line c.args.answer c.in-Err.trouble c.self.inside.stand c.end.result c.self.invariant.1
    (rw c.in-Err.ensures.err at c.end.ensures.end))
