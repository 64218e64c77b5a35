-- The promise of the program, by its first word, and its exit status and text.
use Rattle.std.specs.Prelude.{◌≡◌, ◌≢◌, ℕ, List, [], ◌∷◌, codes, Result, Ok, Err}
use Rattle.wm_audit_program.specs.Checked.{IsChecked}
use Rattle.wm_audit_program.specs.Exported.{IsExported}
use Rattle.wm_audit_program.specs.Statuses as check
use Rattle.wm_audit_program.specs.Written.{takes_of}
use Rattle.wm_bench.specs.declared.hand.Hand.{Hand}
use Rattle.wm_callers_program.specs.Run.{IsCallersRun}
use Rattle.wm_cli.specs.Run.{IsRun}
use Rattle.wm_beginning.specs.Reading.{Reads}
use Rattle.wm_live_program.specs.Run.{IsLiveRun}
use Rattle.wm_live_program.specs.declared.ended.LiveEnded.{LiveEnded}
use Rattle.wm_ended.specs.declared.not_begun.NotBegun.{NotBegun}
use Rattle.wm_outcome.specs.declared.outcome.Outcome.{Outcome}
use Rattle.wm_outcome.specs.declared.outcome.Outcome.TheVariants.{Callers, Check, Export, Live, LiveNotBegun, Run}
use Rattle.wm_ended.specs.Status as run
use Rattle.wm_ended.specs.Tells.{Tells}

-- ---- the first word

-- there is no first word, or it is none of those that ask for something else than a run
abbrev pub AskForRun : List (List ℕ) → Type 0
AskForRun [] = Unit {0}
AskForRun (first ∷ others) = (first ≢ codes "export") × (first ≢ codes "check") × (first ≢ codes "live") × (first ≢ codes "callers")

-- the words ask by this first one, and those after it have this promise
pub record AskBy (first : List ℕ) (words : List (List ℕ)) (P : List (List ℕ) → Type 0) : Type 0 where
  pub others : List (List ℕ)
  pub are : words ≡ first ∷ others
  pub holds : P others

-- the outcome of a test driver, whether its table was begun or wasn't
abbrev pub live_outcome : {K W B : Type 0} → Result (LiveEnded K W B) (NotBegun K W B) → Outcome K W B
live_outcome (Ok ended) = Live ended
live_outcome (Err back) = LiveNotBegun back

-- ---- the promise

-- The promise of the program with these words and workers, whose source was and is as told, which was given this keeper and this sink: what it came
-- to is what the first word asks for, and keeps the promise of that for the words after it.
abbrev pub IsOutcome : {K W B S : Type 0} → Tells K W B → Reads S → List (List ℕ) → List (Hand B) → S → S → K → W → Outcome K W B → Type 0
IsOutcome tells source words workers before now keeper sink (Run ended) =
    AskForRun words × IsRun tells source words workers before now keeper sink ended
IsOutcome tells source words workers before now keeper sink (Export exported) =
    AskBy (codes "export") words (λ others. IsExported tells source others workers before now keeper sink exported)
IsOutcome tells source words workers before now keeper sink (Check checked) =
    AskBy (codes "check") words (λ others. IsChecked source (takes_of tells.given tells.sink_faults) others before now keeper sink checked)
IsOutcome tells source words workers before now keeper sink (Live ended) =
    AskBy (codes "live") words (λ others. IsLiveRun tells source others workers before now keeper sink (Ok ended))
IsOutcome tells source words workers before now keeper sink (LiveNotBegun back) =
    AskBy (codes "live") words (λ others. IsLiveRun tells source others workers before now keeper sink (Err back))
IsOutcome tells source words workers before now keeper sink (Callers called) =
    AskBy (codes "callers") words (λ others. IsCallersRun tells source others workers before now keeper sink called.callers.items called.ended)

-- ---- the end of the program

-- the exit status
abbrev pub code_of : {K W B : Type 0} → Outcome K W B → ℕ
code_of (Run ended) = run.code_of ended.status
code_of (Export exported) = run.code_of exported.status
code_of (Check checked) = check.code_of checked.status
code_of (Live ended) = run.code_of ended.status
code_of (LiveNotBegun back) = run.code_of back.status
code_of (Callers called) = run.code_of called.ended.status

-- what is written on standard error, without the line's end
abbrev pub text_of : {K W B : Type 0} → Outcome K W B → List ℕ
text_of (Run ended) = run.status_text ended.status
text_of (Export exported) = run.status_text exported.status
text_of (Check checked) = check.text_of checked.status
text_of (Live ended) = run.status_text ended.status
text_of (LiveNotBegun back) = run.status_text back.status
text_of (Callers called) = run.status_text called.ended.status
