-- A numeral that `parse` refuses is above every number of its type.
use Rattle.std.proofs.Common.{arith, sym, ◌∙◌}
use Rattle.wm_words.proofs.WordsLemmas.{number_within-refused}
use Rattle.wm_words.proofs.settings.number_within.Goals as goal

pub returns-in_err-number-clause-value : goal.returns-in_err-number-clause-value
returns-in_err-number-clause-value c =
    c.from_residual.ensures
    ∙ number_within-refused c.args.most c.args.text.now c.parse.result (omega arith) (cc) c.parse.ensures.value.0 (sym c.ok.ensures.value ∙ c.in_err-number.was)
