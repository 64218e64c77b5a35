use Rattle.std.proofs.Common.{◌∙◌, length, ap}
use Rattle.wm_callers_program.proofs.Dealing.{dealt-length}
use Rattle.wm_callers_program.specs.Lines.{lines_of}
use Rattle.wm_callers_program.proofs.calling.call_lines.Goals as goal

pub call_lots-requires-clause-lots : goal.call_lots-requires-clause-lots
call_lots-requires-clause-lots g c κs within = ap length c.in-Ok.ensures ∙ dealt-length c.args.count (lines_of c.args.commands)
