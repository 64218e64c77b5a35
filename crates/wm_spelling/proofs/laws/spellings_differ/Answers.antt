use Rattle.std.proofs.Common.{ap, sym, ◌∙◌}
use Rattle.wm_spelling.proofs.laws.spellings_differ.Goals as goal
use Rattle.wm_spelling.specs.Commands.{command_in}

pub returns : goal.returns
returns c = λ one other is_one is_other same. sym is_one ∙ ap command_in same ∙ is_other
