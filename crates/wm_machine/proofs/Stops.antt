-- What holds of a state once runs are stopped, and records are changed with them.
use Rattle.std.proofs.Common.{map-id, ◌≡◌, ◌⊎◌, ◌&&◌, ◌||◌, ℕ, Bool, true, false, cond, eqb, List, filter, map, refl, sym, ◌∙◌, ap, subst, inl, inr}
use Rattle.std.specs.List.{AllByRecursion}
use Rattle.std.proofs.lemmas.Bool.{and_from, cases_Bool, cond_both, eq-eqb, eqb-true, false≢true, true≢false}
use Rattle.wm_collections.specs.Lists.{AllLater, HasOne, is_among}
use Rattle.wm_collections.proofs.Lists.{All-any, All-map, All-map2, All-stored, All-weaker, All-with2, AllLater-map, HasOne-map_with, HasOne-weaker, list_any-false, list_any-kept, list_any-same, list_any-stored, list_any_after, map-same, map-twice}
use Rattle.wm_machine.proofs.Changes.{AreWorks-changed, IsChange, IsWorkOf-kept, KeepsRun}
use Rattle.wm_machine.proofs.Runnings.{each_or_apart}
use Rattle.wm_machine.specs.Runs.{stopped, with_stopped}
use Rattle.wm_machine.specs.Valid.{AreApart, IsCurrentOf, IsOutForRun, IsValidRun, IsWorkOf, Valid}
use Rattle.wm_machine.specs.Types.{Instance, Record, Run, State}
use Rattle.wm_machine.specs.declared.record.Phase.TheVariants as phase

-- a test of two parts fails, where one of them fails once the other holds
pub and_fails : (one other : Bool) → (one ≡ true → other ≡ false) → (one && other) ≡ false
and_fails true other fails = fails refl
and_fails false other fails = refl

-- ---- runs that are stopped

-- a run, stopped where it is meant
abbrev pub stopped_in : (Run → Bool) → Run → Run
stopped_in stops run = cond (stops run) (stopped run) run

-- what holds in both cases
pub stopped_both : (P : Run → Type 0) (stops : Run → Bool) (run : Run) → (stops run ≡ true → P (stopped run)) → (stops run ≡ false → P run)
    → P (stopped_in stops run)
stopped_both P stops run hit miss = cond_both (stops run) (stopped run) run P hit miss

-- where none is meant they stay as they are
pub with_stopped-none : (runs : List Run) → with_stopped (λ run. false) runs ≡ runs
with_stopped-none runs = map-id runs

stopped_again : (again : Bool) (run : Run) → cond again (stopped (stopped run)) (stopped run) ≡ stopped run
stopped_again true run = refl
stopped_again false run = refl

-- where some are stopped and then others, all of them are at once
pub with_stopped-twice : (one other : Run → Bool) (runs : List Run)
    → with_stopped other (with_stopped one runs) ≡ with_stopped (λ run. one run || other run) runs
with_stopped-twice one other runs =
    let both = λ (run : Run). one run || other run in
    map-twice (stopped_in one) (stopped_in other) runs
    ∙ map-same (λ run. stopped_in other (stopped_in one run)) (stopped_in both) runs (All-any runs (λ run.
    elim (cases_Bool (one run)) [
      | inl e ↦
          ap (λ b. stopped_in other (cond b (stopped run) run)) e ∙ stopped_again (other (stopped run)) run
          ∙ sym (ap (λ b. cond (b || other run) (stopped run) run) e)
      | inr e ↦ ap (λ b. stopped_in other (cond b (stopped run) run)) e ∙ sym (ap (λ b. cond (b || other run) (stopped run) run) e)
    ]))

AreApart-stopped : (stops : Run → Bool) (one other : Run) → AreApart one other → AreApart (stopped_in stops one) (stopped_in stops other)
AreApart-stopped stops one other apart =
    stopped_both (λ r. AreApart r (stopped_in stops other)) stops one (λ e. stopped_both (AreApart (stopped one)) stops other
    (λ e. record { runs = apart.runs; works = λ now then. absurd (false≢true now); instances = apart.instances })
    (λ e. record { runs = apart.runs; works = λ now then. absurd (false≢true now); instances = apart.instances }))
    (λ e. stopped_both (AreApart one) stops other
    (λ e. record { runs = apart.runs; works = λ now then. absurd (false≢true then); instances = apart.instances }) (λ e. apart))

-- an instance is out as before
IsOutForRun-stopped : (stops : Run → Bool) (runs : List Run) (i : Instance) → IsOutForRun runs i → IsOutForRun (with_stopped stops runs) i
IsOutForRun-stopped stops runs i out =
    out ∙ sym (list_any-same (λ r. eqb r.instance i.number) (stopped_in stops) runs
    (λ r. stopped_both (λ (x : Run). eqb x.instance i.number ≡ eqb r.instance i.number) stops r (λ e. refl) (λ e. refl)))

-- ---- the state

-- Records are changed, and runs are stopped: a record that runs then ran before, and no current run of it is stopped, and the work of a current
-- run that isn't stopped runs as before.
pub record IsStop (s : State) (change : Record → Record) (stops : Run → Bool) : Type 0 where
  pub is_change : IsChange s.works change
  pub running : AllByRecursion (λ work. (change work).phase ≡ phase.Running
      → (work.phase ≡ phase.Running) × AllByRecursion (λ run. IsCurrentOf work.seq run → stops run ≡ false) s.runs) s.works
  pub works : AllByRecursion (λ run. run.current ≡ true → stops run ≡ false
      → AllByRecursion (λ work. IsWorkOf run work → KeepsRun work (change work)) s.works) s.runs

-- a running work keeps its run
running_stays : (stops : Run → Bool) (runs : List Run) (work : Record) → AllByRecursion (λ run. IsCurrentOf work.seq run → stops run ≡ false) runs
    → HasOne (IsCurrentOf work.seq) runs → HasOne (IsCurrentOf work.seq) (with_stopped stops runs)
running_stays stops runs work not one =
    HasOne-map_with _ (stopped_in stops) runs (λ run not of.
    stopped_both (IsCurrentOf work.seq) stops run (λ e. absurd (true≢false (sym e ∙ not of))) (λ e. of)) not one

-- a run stays valid
IsValidRun-stopped : (s : State) (change : Record → Record) (stops : Run → Bool) (run : Run) → IsChange s.works change
    → (run.current ≡ true → stops run ≡ false → AllByRecursion (λ work. IsWorkOf run work → KeepsRun work (change work)) s.works)
    → IsValidRun s.works s.instances s.next_run run → IsValidRun (map change s.works) s.instances s.next_run (stopped_in stops run)
IsValidRun-stopped s change stops run is keeps fine =
    stopped_both (IsValidRun (map change s.works) s.instances s.next_run) stops run (λ e. record {
      number = fine.number;
      turn = fine.turn;
      input = fine.input;
      work = λ current. absurd (false≢true current);
      instance = HasOne-weaker s.instances (λ i of. record { number = of.number; kind = of.kind }) fine.instance;
    }) (λ e. record {
      number = fine.number;
      turn = fine.turn;
      input = fine.input;
      work = λ current. HasOne-map_with _ change s.works (λ work keep of. IsWorkOf-kept run work (change work) (is.same work) (keep of) of)
          (keeps current e) (fine.work current);
      instance = fine.instance;
    })

pub Valid-stopped : (s : State) (change : Record → Record) (stops : Run → Bool) → Valid s → IsStop s change stops
    → Valid (record s { works = map change s.works; runs = with_stopped stops s.runs })
Valid-stopped s change stops valid is = record {
  works = AreWorks-changed s.next s.works change valid.works is.is_change;
  runs = record {
    running = All-map _ change s.works (λ work then. then) (All-with2 s.works (λ work has may running.
        subst (λ n. HasOne (IsCurrentOf n) (with_stopped stops s.runs)) (sym (is.is_change.same work).seq)
        (running_stays stops s.runs work (may running).1 (has (may running).0))) valid.runs.running is.running);
    each = All-map2 _ (stopped_in stops) s.runs (λ run keeps fine. IsValidRun-stopped s change stops run is.is_change keeps fine) is.works valid.runs.each;
    apart = AllLater-map _ (stopped_in stops) s.runs (AreApart-stopped stops) valid.runs.apart;
  };
  instances = record {
    out = All-weaker s.instances (IsOutForRun-stopped stops s.runs) valid.instances.out;
    few = valid.instances.few;
    numbered = valid.instances.numbered;
  };
  few_observers = valid.few_observers;
  now = valid.now;
}

-- ---- the numbers of what is stopped

-- the numbers of the current runs that are meant
abbrev pub stopped_numbers : (Run → Bool) → List Run → List ℕ
stopped_numbers stops runs = map (λ (run : Run). run.run) (filter (λ run. run.current && stops run) runs)

-- a run's number is one of them exactly where it is current and meant
number_among : (stops : Run → Bool) (runs : List Run) (run : Run) → HasOne (λ other. other ≡ run) runs
    → AllByRecursion (λ other. (other ≡ run) ⊎ AreApart run other) runs → is_among (stopped_numbers stops runs) run.run ≡ (run.current && stops run)
number_among stops runs run stored apart =
    let meant = λ (r : Run). r.current && stops r in
    let test = λ (r : Run). eqb r.run run.run && meant r in
    list_any_after (λ number. eqb number run.run) (λ (r : Run). r.run) (filter meant runs) ∙ list_any-kept (λ (r : Run). eqb r.run run.run) meant runs
    ∙ elim (cases_Bool (meant run)) [
      | inl e ↦ list_any-stored test runs run stored (and_from _ _ (eq-eqb run.run run.run refl) e) ∙ sym e
      | inr e ↦
          list_any-false test runs (All-weaker runs (λ other is. and_fails (eqb other.run run.run) (meant other) (λ same.
          elim is [ inl it ↦ ap meant it ∙ e | inr a ↦ absurd (a.runs (sym (eqb-true other.run run.run same))) ])) apart) ∙ sym e
    ]

-- a run that isn't current stays as it is, whether it is meant or not
pub stopped-idle : (stops : Bool) (run : Run) → run.current ≡ false → cond stops (stopped run) run ≡ run
stopped-idle true run is = ap (λ b. record run { current = b }) (sym is)
stopped-idle false run is = refl

stopped-current : (current stops : Bool) (run : Run) → run.current ≡ current
    → cond (current && stops) (stopped run) run ≡ cond stops (stopped run) run
stopped-current true stops run is = refl
stopped-current false stops run is = sym (stopped-idle stops run is)

-- to stop the runs of these numbers is to stop those that are meant
pub stopped-among : (stops : Run → Bool) (runs : List Run) → AllLater AreApart runs
    → with_stopped (λ run. is_among (stopped_numbers stops runs) run.run) runs ≡ with_stopped stops runs
stopped-among stops runs apart =
    map-same (stopped_in (λ run. is_among (stopped_numbers stops runs) run.run)) (stopped_in stops) runs (All-with2 runs (λ run there others.
    ap (λ b. cond b (stopped run) run) (number_among stops runs run there others) ∙ stopped-current run.current (stops run) run refl) (All-stored runs)
    (each_or_apart runs apart))
