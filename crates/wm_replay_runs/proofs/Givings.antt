-- What a stock worker's answer decides.
use Rattle.std.proofs.Common.{◌≡◌, ◌↔◌, Bool, List, Option, Some, None, IsSome, IsTrue, sym, ◌∙◌, ap}
use Rattle.std.proofs.lemmas.Option.{same_Some}
use Rattle.wm_replay_runs.specs.Giving.{IsMore}
use Rattle.wm_data.specs.declared.data.DataEntry.{DataEntry}
use Rattle.wm_worker.specs.Answers.{IsGivenFor}
use Rattle.wm_worker.specs.declared.answer.Given.{Given}
use Rattle.wm_worker.specs.declared.answer.Given.TheVariants.{More}

-- whether it is what was given
pub stock-decides : (stock : Option Given) (found : Option Given) (gave : Given) (b : Bool) → IsSome stock → found ≡ stock
    → (IsTrue b ↔ (found ≡ Some gave)) → (IsTrue b ↔ IsGivenFor stock gave)
stock-decides None found gave b is same decides = absurd (cc)
stock-decides (Some stock) found gave b is same decides = (
  λ yes. same_Some gave stock (sym (decides.0 yes) ∙ same),
  λ given. decides.1 (same ∙ ap (λ g. Some g) (sym given)),
)

-- whether it is the wish for one more turn
pub more-decides : (stock : Option Given) (found : Option Given) (b : Bool) → IsSome stock → found ≡ stock
    → (IsTrue b ↔ IsMore found) → (IsTrue b ↔ ((progress : Option (List DataEntry)) × IsGivenFor stock (More progress)))
more-decides None found b is same decides = absurd (cc)
more-decides (Some stock) found b is same decides = (
  λ yes. let more = decides.0 yes in (more.0, same_Some (More more.0) stock (sym more.1 ∙ same)),
  λ has. decides.1 (has.0, same ∙ ap (λ g. Some g) (sym has.1)),
)
