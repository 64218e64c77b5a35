-- The value of the option tells where the lines come from.
use Rattle.std.proofs.Common.{None, Some}
use Rattle.wm_words.proofs.WordsLemmas.{origin_set, origin_unset}
use Rattle.wm_words.proofs.run.origin_in.Goals as goal

pub returns-in_err-number_within-in-Some : goal.returns-in_err-number_within-in-Some
returns-in_err-number_within-in-Some c =
    let given = rw c.in-Some.value-is at c.in-Some.ensures in
    record { asked = rw c.from_residual.ensures (origin_set _ c.in-Some.value.now None given c.in_err-number_within-in-Some.ensures.value) }

pub returns-in_ok-number_within-in-Some : goal.returns-in_ok-number_within-in-Some
returns-in_ok-number_within-in-Some c =
    record { asked = origin_set _ c.in-Some.value.now (Some c.in_ok-number_within-in-Some.field-0) c.in-Some.ensures c.in_ok-number_within-in-Some.ensures.value }

pub returns-in-None : goal.returns-in-None
returns-in-None c = record { asked = origin_unset _ c.in-None.ensures }
