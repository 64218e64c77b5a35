-- What a worker told in a report that counts for a run is what it may give there.
use Rattle.std.proofs.Common.{◌≡◌, ℕ, Some, subst}
use Rattle.std.specs.Prelude.{IsSomeAnd}
use Rattle.std.proofs.lemmas.Option.{none-some, same_Some}
use Rattle.wm_machine.specs.Runs.{run_numbered}
use Rattle.wm_machine.specs.declared.state.Run.{Run}
use Rattle.wm_machine.specs.declared.state.State.{State}
use Rattle.wm_worker.specs.declared.kind.Kind.{Kind}
use Rattle.wm_runs.specs.Reports.{Counts, CountsIn}
use Rattle.wm_worker.specs.Answers.{given_of, MayAnswer, MayGive}
use Rattle.wm_worker.specs.Told.{task_of, IsAllowed, Report}
use Rattle.wm_worker.specs.declared.answer.Answer.{Answer}
use Rattle.wm_worker.specs.declared.answer.Answer.TheVariants as answer
use Rattle.wm_worker.specs.declared.answer.Given.{Given}
use Rattle.wm_worker.specs.declared.answer.Given.TheVariants as given
use Rattle.wm_worker.specs.declared.task.Task.{Task}

-- a report that counts in a state counts for the run that is found
pub counted : (s : State) (number : ℕ) (told : Report) (run : Run) → CountsIn s number told → run_numbered number s.runs ≡ Some run → Counts run told
counted s number told run counts found = subst (λ found. IsSomeAnd found (λ r. Counts r told)) found counts

-- an answer that is allowed gives what may be given
given-allowed : (kind : Kind) (task : Task) (k : ℕ) (answer : Answer) (gave : Given) → MayAnswer kind task k answer → given_of answer ≡ Some gave
    → MayGive kind task.input task.attempt k gave
given-allowed kind task k (answer.More progress) gave may is =
    subst (MayGive kind task.input task.attempt k) (same_Some (given.More progress) gave is) may
given-allowed kind task k (answer.Success output) gave may is =
    subst (MayGive kind task.input task.attempt k) (same_Some (given.Success output) gave is) may
given-allowed kind task k (answer.Failure output) gave may is =
    subst (MayGive kind task.input task.attempt k) (same_Some (given.Failure output) gave is) may
given-allowed kind task k answer.Retry gave may is = subst (MayGive kind task.input task.attempt k) (same_Some given.Retry gave is) may
given-allowed kind task k (answer.Cut raised) gave may is = absurd (none-some gave is)

-- it may be given in the run
pub may-give : (run : Run) (told : Report) (gave : Given) → Counts run told → IsAllowed told → given_of told.answer ≡ Some gave
    → MayGive run.kind run.input run.attempt run.turn gave
may-give run told gave counts allowed is =
    let about = counts.about in
    let may = given-allowed told.kind (task_of told) told.k told.answer gave allowed is in
    subst (λ (kind : Kind). MayGive kind run.input run.attempt run.turn gave) about.same_kind
    (subst (λ input. MayGive told.kind input run.attempt run.turn gave) about.same_input
    (subst (λ attempt. MayGive told.kind told.input attempt run.turn gave) about.same_attempt
    (subst (λ k. MayGive told.kind told.input told.attempt k gave) about.same_turn may)))
