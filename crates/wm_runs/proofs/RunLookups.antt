-- The work of a run, and the run of a number.
use Rattle.std.proofs.Common.{◌≡◌, ℕ, ◌<◌, true, eqb, List, [], ◌∷◌, ◌++◌, find, slice_get, Option, Some, refl, ◌∙◌, ap, subst, arith, inl, inr}
use Rattle.std.specs.Prelude.{IsSomeAnd}
use Rattle.std.specs.List.{AllByRecursion}
use Rattle.std.proofs.lemmas.Bool.{cases_Bool, eq-eqb, eqb-true, ne_eqb}
use Rattle.std.proofs.lemmas.Option.{none-some, same_Some}
use Rattle.wm_collections.proofs.Lists.{find-passes, one_gives}
use Rattle.wm_machine.proofs.Runnings.{found_valid, WorksAscend, WorksAscend-in_order}
use Rattle.wm_machine.specs.Input.{work_numbered}
use Rattle.wm_machine.specs.Runs.{run_numbered}
use Rattle.wm_machine.specs.Turns.{turned, with_turned}
use Rattle.wm_collections.specs.Lists.{HasOne}
use Rattle.wm_machine.specs.Valid.{IsWorkOf, Valid}
use Rattle.wm_machine.specs.declared.record.Record.{Record}
use Rattle.wm_machine.specs.declared.state.Run.{Run}
use Rattle.wm_machine.specs.declared.state.State.{State}
use Rattle.wm_runs.specs.Reports.{IsFoundRun}

-- the first record of a run's work number is the run's work
pub find-work : (run : Run) (works : List Record) → WorksAscend works → HasOne (IsWorkOf run) works
    → IsSomeAnd (find (λ work. eqb work.seq run.seq) works) (IsWorkOf run)
find-work run [] ascend one = absurd one
find-work run (first ∷ works) ascend (inl is) =
    let hit = eq-eqb first.seq run.seq is.seq in
    rw hit is
find-work run (first ∷ works) ascend (inr one) =
    let above : first.seq < run.seq = one_gives works (λ later above is. subst (λ n. first.seq < n) is.seq above) ascend.0 one in
    let miss = ne_eqb first.seq run.seq (λ e. absurd (omega arith)) in
    rw miss (find-work run works ascend.1 one)

-- the record of a current run's work number is the run's work
pub work-found : (s : State) (number : ℕ) (run : Run) → Valid s → run_numbered number s.runs ≡ Some run → run.current ≡ true
    → IsSomeAnd (work_numbered run.seq s.works) (IsWorkOf run)
work-found s number run valid found current =
    find-work run s.works (WorksAscend-in_order s.works valid.works.in_order) ((found_valid s number run valid found).work current)

-- and so is the one at the index of that number
pub found-at : (s : State) (number i : ℕ) (run : Run) (work : Record) → Valid s → run_numbered number s.runs ≡ Some run → run.current ≡ true
    → slice_get s.works i ≡ Some work → work_numbered run.seq s.works ≡ slice_get s.works i → IsFoundRun s number i run work
found-at s number i run work valid found current at same = record {
  valid = valid;
  found = found;
  current = current;
  at = at;
  of = subst (λ (o : Option Record). IsSomeAnd o (IsWorkOf run)) (same ∙ at) (work-found s number run valid found current);
}

-- ---- runs

-- the run of a new number is found where it was added
pub run_numbered-push : (number : ℕ) (runs : List Run) (run : Run) → AllByRecursion (λ other. other.run < number) runs → run.run ≡ number
    → run_numbered number (runs ++ run ∷ []) ≡ Some run
run_numbered-push number [] run below is = let hit = eq-eqb run.run number is in rw hit refl
run_numbered-push number (first ∷ runs) run below is =
    let miss = ne_eqb first.run number (λ e. absurd (omega (arith, below.0))) in
    rw miss (run_numbered-push number runs run below.1 is)

-- a run that is found has the number
pub found-numbered : (number : ℕ) (runs : List Run) (run : Run) → run_numbered number runs ≡ Some run → run.run ≡ number
found-numbered number runs run found = eqb-true run.run number (find-passes (λ r. eqb r.run number) runs run found)

-- the run of a number is found at its next turn
pub run_numbered-turned : (number : ℕ) (runs : List Run) (run : Run) → run_numbered number runs ≡ Some run
    → run_numbered number (with_turned number runs) ≡ Some (turned run)
run_numbered-turned number [] run found = absurd (none-some run found)
run_numbered-turned number (first ∷ runs) run found = elim (cases_Bool (eqb first.run number)) [
  | inl hit ↦
      let same : first ≡ run = same_Some first run (rw hit at found) in
      rw (hit, hit) (ap (λ (r : Run). Some (turned r)) same)
  | inr miss ↦ rw (miss, miss) (run_numbered-turned number runs run (rw miss at found))
]
