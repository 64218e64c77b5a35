use Rattle.wm_serve_text.proofs.AnswersLemmas.{beat_has_no_float}
use Rattle.wm_serve_text.proofs.answers.beat_text.Goals as goal

pub line_text-requires : goal.line_text-requires
line_text-requires c = rw c.in_ok-value.ensures (beat_has_no_float c.args.line c.args.gone.now c.args.late.now)
