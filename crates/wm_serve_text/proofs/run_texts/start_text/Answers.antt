use Rattle.wm_serve_text.proofs.AnswersLemmas.{start_has_no_float}
use Rattle.wm_serve_text.proofs.run_texts.start_text.Goals as goal

pub line_text-requires : goal.line_text-requires
line_text-requires c = rw c.in_ok-value.ensures (start_has_no_float c.args.name.now c.args.run.now c.args.work.now c.args.slot)
