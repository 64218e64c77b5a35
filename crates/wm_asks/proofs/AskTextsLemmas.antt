-- No answer has a float, so its compact text is what `to_vec` gives.
use Rattle.std.proofs.Common.{◌≡◌, ℕ, Some, None, false, refl}
use Rattle.serde_json.specs.Written.{has_float}
use Rattle.wm_asks.specs.AskTexts.{answer_json, refused_json}
use Rattle.wm_asks.specs.declared.ask.LiveRefusal.{LiveRefusal}
use Rattle.wm_asks.specs.declared.ask.LiveRefusal.TheVariants as refusal
use Rattle.wm_asks.specs.declared.ask.LiveReply.{LiveReply}
use Rattle.wm_asks.specs.declared.ask.LiveReply.TheVariants as answer

refusal_has_no_float : (line : ℕ) (found : LiveRefusal) → has_float (refused_json line found) ≡ false
refusal_has_no_float line (refusal.NoSuchWork id) = refl
refusal_has_no_float line (refusal.KindMismatch id) = refl
refusal_has_no_float line (refusal.NotWaiting id state) = refl
refusal_has_no_float line (refusal.NeverDue id due) = refl

pub answer_has_no_float : (line : ℕ) (told : LiveReply) → has_float (answer_json line told) ≡ false
answer_has_no_float line (answer.Did reply) = refl
answer_has_no_float line answer.Ticked = refl
answer_has_no_float line (answer.Wake None) = refl
answer_has_no_float line (answer.Wake (Some at)) = refl
answer_has_no_float line (answer.Refused found) = refusal_has_no_float line found
