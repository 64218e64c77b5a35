use Rattle.std.proofs.Common.{◌≡◌, ◌∙◌, [], ◌∷◌, ◌++◌, List, ap, sym, rules}
use Rattle.wm_callers_program.proofs.Dealing.{dealt-none}
use Rattle.wm_callers_program.specs.Lines.{AskedLine}
use Rattle.wm_callers_program.proofs.line.empty_lots.Goals as goal

pub loop-number-preserved : goal.loop-number-preserved
loop-number-preserved c =
    let pushed : c.push.new.self.items ≡ c.loop-number.lots.items ++ [] ∷ [] = search rules in
    pushed ∙ ap (λ (l : List (List AskedLine)). l ++ [] ∷ []) c.loop-number.invariant ∙ sym (dealt-none c.args.callers c.loop-number._number)
