-- What the worker of a run may give.
use Rattle.std.specs.Prelude.{◌≡◌, List, Option, Some, None, IsSome}
use Rattle.wm_data.specs.declared.data.DataEntry.{DataEntry}
use Rattle.wm_machine.specs.declared.state.Run.{Run}
use Rattle.wm_worker.specs.Answers.{given_of, MayGive}
use Rattle.wm_worker.specs.declared.answer.Answer.{Answer}
use Rattle.wm_worker.specs.declared.answer.Given.{Given}
use Rattle.wm_worker.specs.declared.answer.Given.TheVariants.{More}

-- what was given is the wish for one more turn
abbrev pub IsMore : Option Given → Type 0
IsMore found = (progress : Option (List DataEntry)) × (found ≡ Some (More progress))

-- the worker of a run may want one more turn
abbrev pub MayWantMore : Run → Type 0
MayWantMore run = (progress : Option (List DataEntry)) × MayGive run.kind run.input run.attempt run.turn (More progress)

-- the answer of a stock worker that gives this
pub record IsAnswerOf (stock : Option Given) (answer : Answer) : Type 0 where
  pub is_stock : IsSome stock
  pub same : given_of answer ≡ stock

-- the answer of a stock worker, and none where the worker isn't a stock one
abbrev pub IsStockAnswer : Option Given → Option Answer → Type 0
IsStockAnswer stock None = stock ≡ None
IsStockAnswer stock (Some answer) = IsAnswerOf stock answer
