-- A state in which a run is over and the records were changed.
use Rattle.std.proofs.Common.{◌≡◌, ◌≢◌, ℕ, Bool, map, true, false, not, eqb, Some, sym, ◌∙◌, ap, subst, inl, inr, ◌≤◌}
use Rattle.std.specs.List.{AllByRecursion}
use Rattle.std.proofs.lemmas.Bool.{cases_Bool, eqb-false, eqb-true, ne_eqb, not-true, true≢false}
use Rattle.std.proofs.lemmas.List.{length-map}
use Rattle.wm_machine.proofs.Changes.{AreWorks-changed, IsChange, IsWorkOf-kept, KeepsRun}
use Rattle.wm_collections.proofs.Lists.{All-filter, All-map, All-weaker, All-with2, All-with3, AllLater-filter, HasOne-filter, HasOne-map_with, HasOne-weaker, find-passes, list_any-false, list_any-filter}
use Rattle.wm_machine.proofs.Runnings.{all_of_number, AreNumberedInOrder-made, found_or_apart, found_valid, IsFoundOrApart, made, made_both, same_instance}
use Rattle.wm_machine.specs.Ends.{with_return}
use Rattle.wm_machine.specs.Runs.{other_runs, run_numbered, with_out}
use Rattle.wm_collections.specs.Lists.{HasOne}
use Rattle.wm_machine.specs.Valid.{Valid, AreApart, AreInstances, IsCurrentOf, IsOutForRun, IsValidRun}
use Rattle.wm_machine.specs.declared.record.Phase.TheVariants as phase
use Rattle.wm_machine.specs.Types.{Instance, Record, Run, State}

-- ---- the other runs

-- a valid run, which is this one or apart from it
abbrev IsTold : State → Run → Run → Type 0
IsTold s run other = IsFoundOrApart run.run run other × IsValidRun s.works s.instances s.next_run other

-- whether a run stays
abbrev stays : Run → Run → Bool
stays run other = not (eqb other.run run.run)

-- what holds of each run apart from this one holds of those that stay
others : (s : State) (run : Run) (P : Run → Type 0) → AllByRecursion (IsTold s run) s.runs
    → ((other : Run) → AreApart run other → IsValidRun s.works s.instances s.next_run other → P other) → AllByRecursion P (other_runs run.run s.runs)
others s run P told each =
    All-filter (stays run) s.runs (λ other kept is. elim is.0
    [ inl found ↦ absurd (true≢false (sym found.0 ∙ not-true (eqb other.run run.run) kept)) | inr apart ↦ each other apart.1 is.1 ]) told

-- each run of a state is so told, where this one was found by its number
each_told : (s : State) (number : ℕ) (run : Run) → Valid s → run_numbered number s.runs ≡ Some run → AllByRecursion (IsTold s run) s.runs
each_told s number run valid found =
    let same : run.run ≡ number = eqb-true run.run number (find-passes (λ r. eqb r.run number) s.runs run found) in
    All-with2 s.runs (λ r told fine. (told, fine))
    (found_or_apart run.run run s.runs (subst (λ n. run_numbered n s.runs ≡ Some run) (sym same) found) valid.runs.apart) valid.runs.each

-- a running work other than this run's keeps its run
running_stays : (s : State) (run : Run) (seq : ℕ) → AllByRecursion (IsTold s run) s.runs → (seq ≡ run.seq → ⊥) → HasOne (IsCurrentOf seq) s.runs
    → HasOne (IsCurrentOf seq) (other_runs run.run s.runs)
running_stays s run seq told differs one =
    HasOne-filter (stays run) s.runs (λ r is same.
    elim is.0 [ inl found ↦ absurd (differs (sym same.of ∙ ap (λ (x : Run). x.seq) found.1)) | inr apart ↦ ap not apart.0 ]) told one

-- an instance is out exactly where a run is on it, after this run is over
IsOutForRun-freed : (s : State) (run : Run) (i : Instance) → AllByRecursion (IsTold s run) s.runs → IsOutForRun s.runs i
    → IsOutForRun (other_runs run.run s.runs) (made false run.instance i)
IsOutForRun-freed s run i told out =
    let on : Run → Bool = λ r. eqb r.instance i.number in
    made_both (IsOutForRun (other_runs run.run s.runs)) false run.instance i (λ e. sym (list_any-false on (other_runs run.run s.runs)
    (others s run (λ r. on r ≡ false) told (λ other apart is. ne_eqb other.instance i.number (λ same. apart.instances (sym (same ∙ e)))))))
    (λ differs. out ∙ sym (list_any-filter on (stays run) s.runs (All-weaker s.runs (λ r is dropped.
    elim is.0 [
      | inl found ↦ ne_eqb r.instance i.number (λ same. differs (sym same ∙ ap (λ (x : Run). x.instance) found.1))
      | inr apart ↦ absurd (true≢false (sym (ap not apart.0) ∙ dropped))
    ]) told)))

-- the instances, once this run is away
instances_freed : (s : State) (run : Run) → Valid s → AllByRecursion (IsTold s run) s.runs
    → AreInstances (other_runs run.run s.runs) (with_out false run.instance s.instances)
instances_freed s run valid told = record {
  out = All-map _ (made false run.instance) s.instances (λ i is. IsOutForRun-freed s run i told is) valid.instances.out;
  few = subst (λ n. n ≤ 10000) (sym (length-map s.instances (made false run.instance))) valid.instances.few;
  numbered = AreNumberedInOrder-made false run.instance 0 s.instances valid.instances.numbered;
}

-- ---- the state

-- a run is over, and the records are changed
abbrev pub with_run_over : State → Run → (Record → Record) → State
with_run_over s run change = record s {
  works = map change s.works;
  runs = other_runs run.run s.runs;
  instances = with_out false run.instance s.instances;
}

-- the work of a current run is running
pub running_of : (s : State) (number : ℕ) (run : Run) → Valid s → run_numbered number s.runs ≡ Some run → run.current ≡ true
    → AllByRecursion (λ w. w.seq ≡ run.seq → w.phase ≡ phase.Running) s.works
running_of s number run valid found current =
    all_of_number (λ w. w.phase ≡ phase.Running) run.seq s.works valid.works.in_order
    (HasOne-weaker s.works (λ w of. (of.seq, of.running)) ((found_valid s number run valid found).work current))

-- a change after which the work of a run doesn't run, and of the others just those that ran before
pub record IsEnding (s : State) (run : Run) (change : Record → Record) : Type 0 where
  pub is_change : IsChange s.works change
  pub idle : AllByRecursion (λ w. w.seq ≡ run.seq → (change w).phase ≡ phase.Running → ⊥) s.works
  pub others : AllByRecursion (λ w. w.seq ≢ run.seq → KeepsRun w (change w)) s.works

-- it keeps what holds of the states that are valid, where that run is over
pub reached-ended : (s : State) (number : ℕ) (run : Run) (change : Record → Record) → Valid s → IsEnding s run change
    → run_numbered number s.runs ≡ Some run → run.current ≡ true → Valid (with_run_over s run change)
reached-ended s number run change valid is found current =
    let told = each_told s number run valid found in
    record {
      works = AreWorks-changed s.next s.works change valid.works is.is_change;
      runs = record {
        running = All-map _ change s.works (λ w then. then) (All-with3 s.works (λ w has idle keeps running.
            elim (cases_Bool (eqb w.seq run.seq)) [
              | inl e ↦ absurd (idle (eqb-true w.seq run.seq e) running)
              | inr e ↦
                  let differs = eqb-false w.seq run.seq e in
                  subst (λ n. HasOne (IsCurrentOf n) (other_runs run.run s.runs)) (sym (is.is_change.same w).seq)
                  (running_stays s run w.seq told differs (has ((keeps differs).ran running)))
            ]) valid.runs.running is.idle is.others);
        each = others s run (IsValidRun (map change s.works) (with_out false run.instance s.instances) s.next_run) told (λ other apart fine. record {
          number = fine.number;
          turn = fine.turn;
          input = fine.input;
          work = λ also. HasOne-map_with _ change s.works (λ w keeps of.
              IsWorkOf-kept other w (change w) (is.is_change.same w) (keeps (λ e. apart.works current also (sym e ∙ of.seq))) of) is.others (fine.work also);
          instance = same_instance false run.instance s.instances other fine.instance;
        });
        apart = AllLater-filter _ (stays run) s.runs valid.runs.apart;
      };
      instances = instances_freed s run valid told;
      few_observers = valid.few_observers;
      now = valid.now;
    }

-- ---- a run that was stopped

-- another run than this, which isn't current, is the one of a running work
current_stays : (s : State) (run : Run) (seq : ℕ) → AllByRecursion (IsTold s run) s.runs → run.current ≡ false → HasOne (IsCurrentOf seq) s.runs
    → HasOne (IsCurrentOf seq) (other_runs run.run s.runs)
current_stays s run seq told stopped one =
    HasOne-filter (stays run) s.runs (λ r is of.
    elim is.0 [
      | inl found ↦ absurd (true≢false (sym of.current ∙ ap (λ (x : Run). x.current) found.1 ∙ stopped))
      | inr apart ↦ ap not apart.0
    ]) told one

-- where it is away, all that holds of every state still does
pub Valid-returned : (s : State) (number : ℕ) (run : Run) → Valid s → run_numbered number s.runs ≡ Some run → run.current ≡ false
    → Valid (with_return s run)
Valid-returned s number run valid found stopped =
    let told = each_told s number run valid found in
    record {
      works = valid.works;
      runs = record {
        running = All-weaker s.works (λ w has running. current_stays s run w.seq told stopped (has running)) valid.runs.running;
        each = others s run (IsValidRun s.works (with_out false run.instance s.instances) s.next_run) told (λ other apart fine. record {
          number = fine.number;
          turn = fine.turn;
          input = fine.input;
          work = fine.work;
          instance = same_instance false run.instance s.instances other fine.instance;
        });
        apart = AllLater-filter _ (stays run) s.runs valid.runs.apart;
      };
      instances = instances_freed s run valid told;
      few_observers = valid.few_observers;
      now = valid.now;
    }
