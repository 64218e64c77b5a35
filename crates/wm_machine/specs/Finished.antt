-- The moment at which a work finished: the present one at the step that finished it. That it is kept is this project's own choice.
use Rattle.std.specs.Prelude.{◌≡◌, ℕ, true, false, List}
use Rattle.std.specs.List.{AllByRecursion}
use Rattle.wm_machine.specs.Closed.{is_open}
use Rattle.wm_machine.specs.declared.record.Record.{Record}

-- no record of this number was finished: it was unfinished, or wasn't there
abbrev pub WasNotFinished : List Record → ℕ → Type 0
WasNotFinished before number = AllByRecursion (λ work. work.seq ≡ number → is_open work.phase ≡ true) before

-- a record that is finished, and before was unfinished or wasn't there, finished at this moment
abbrev pub FinishedNow : ℕ → List Record → Record → Type 0
FinishedNow now before work = is_open work.phase ≡ false → WasNotFinished before work.seq → work.finished_at ≡ now

-- so did each of these
abbrev pub FinishNow : ℕ → List Record → List Record → Type 0
FinishNow now before works = AllByRecursion (FinishedNow now before) works
