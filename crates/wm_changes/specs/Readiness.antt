-- Which works are ready, and what a change owes to those that it makes ready.
use Rattle.std.specs.Prelude.{◌≡◌, ◌⊎◌, ◌&&◌, Bool, true, false, List}
use Rattle.std.specs.List.{AllByRecursion}
use Rattle.wm_machine.specs.Ends.{is_freed}
use Rattle.wm_machine.specs.First.{all_met, has_succeeded, is_succeeded, is_waiting}
use Rattle.wm_machine.specs.declared.record.Record.{Record}
use Rattle.wm_changes.specs.Touched.{touches}
use Rattle.wm_changes.specs.declared.change.StepChange.{StepChange}

-- whether a work is ready among these records: it waits, and each of its prerequisites has succeeded
abbrev pub is_ready_in : List Record → Record → Bool
is_ready_in works work = is_waiting work.phase && all_met works work

-- a record has succeeded, and its number hadn't among these
pub record Succeeds (works : List Record) (new : Record) : Type 0 where
  pub succeeded : is_succeeded new.phase ≡ true
  pub not_before : has_succeeded works new.seq ≡ false

-- where a record succeeds, a change touches the works that it frees among the records after the change
abbrev pub TouchesFreed : List Record → List Record → StepChange → Record → Type 0
TouchesFreed works after change new =
    Succeeds works new → AllByRecursion (λ work. is_freed new.seq after work ≡ true → touches change work.seq ≡ true) works

-- a change touches all works that it frees
abbrev pub TouchesAllFreed : List Record → List Record → StepChange → Type 0
TouchesAllFreed works after change = AllByRecursion (λ replaced. TouchesFreed works after change replaced.work) change.replaced

-- a work is touched, or as ready among the records after the change as it was
abbrev pub StaysReady : List Record → List Record → StepChange → Record → Type 0
StaysReady works after change work = (touches change work.seq ≡ true) ⊎ (is_ready_in works work ≡ is_ready_in after work)
