use Rattle.std.proofs.Common.{◌∙◌, subst}
use Rattle.wm_ended.proofs.WrittenTexts.{part-taken}
use Rattle.wm_ended.specs.Ended.{IsPartAppended}
use Rattle.wm_callers_program.proofs.texts.write_event.Goals as goal

pub returns-clause-front : goal.returns-clause-front
returns-clause-front g c =
    let before = g.W.Sink.given c.args.sink.now in
    let now = g.W.Sink.given c.write_front.new.sink in
    subst (IsPartAppended before now) (c.deref.ensures.value ∙ c.in-Ok.ensures)
    (part-taken before now c.deref.result.now c.write_front.result.0 c.write_front.ensures.given)
