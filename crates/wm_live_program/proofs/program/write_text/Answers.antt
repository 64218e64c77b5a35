use Rattle.std.proofs.Common.{◌∙◌, sym, subst}
use Rattle.wm_io.specs.Writing.{IsAppended}
use Rattle.wm_ended.proofs.Endings.{done-none, done-written}
use Rattle.wm_ended.proofs.WrittenTexts.{all-taken, part-taken}
use Rattle.wm_ended.specs.Ended.{IsPartAppended}
use Rattle.wm_live_program.proofs.program.write_text.Goals as goal

pub returns-clause-bytes : goal.returns-clause-bytes
returns-clause-bytes g c =
    let before = g.W.Sink.given c.args.sink in
    let wrote = c.write_front-written in
    let now = g.W.Sink.given wrote.new.sink in
    let text = c.deref.result.now in
    let all = all-taken before now text wrote.result.0 wrote.result.1 wrote.ensures.given wrote.ensures.all in
    record {
      front = subst (IsPartAppended before now) c.deref.ensures.value (part-taken before now text wrote.result.0 wrote.ensures.given);
      all = λ done.
          subst (IsAppended before now) c.deref.ensures.value
          (done-written (IsAppended before now text) c.args.end.trouble wrote.result.1 all (sym c.of_end.ensures ∙ done));
    }

pub returns-clause-done : goal.returns-clause-done
returns-clause-done g c = λ done. done-none c.args.end.trouble c.write_front-written.result.1 (sym c.of_end.ensures ∙ done)
