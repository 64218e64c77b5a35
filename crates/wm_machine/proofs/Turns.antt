-- A turn after which its run goes on.
use Rattle.std.proofs.Common.{◌≡◌, ℕ, ◌+◌, ◌<◌, ◌≤◌, Bool, true, eqb, cond, List, [], Option, Some, None, IfSome, refl, sym, ◌∙◌, ap, subst, arith, inl, inr, map}
use Rattle.std.specs.List.{AllByRecursion}
use Rattle.std.proofs.lemmas.Bool.{cond_both, eq-eqb, eqb-false, eqb-true, true≢false}
use Rattle.wm_data.specs.Size.{IsData}
use Rattle.wm_machine.specs.Types.{DataEntry, Instance, Record, Run, State}
use Rattle.wm_machine.proofs.Changes.{all_open, AreWorks-changed, IsChange, IsChange-one, IsSameRequest, moves-kept, MovesTo, OfNumber}
use Rattle.wm_machine.proofs.EndedRuns.{running_of}
use Rattle.wm_collections.proofs.Lists.{All-any, All-map, All-map2, All-weaker, All-with2, AllLater-map, HasOne-map, HasOne-weaker, count-same, find-passes, list_any-same}
use Rattle.wm_machine.proofs.Owed.{IsKept}
use Rattle.wm_machine.proofs.Records.{IsRecord-telling}
use Rattle.wm_machine.proofs.Runnings.{changed, changed_both, found_or_apart, found_valid, IsFoundOrApart}
use Rattle.wm_machine.proofs.Waitings.{left-idle, left-one, left_among-changed}
use Rattle.wm_machine.specs.Diaries.{given_lines}
use Rattle.wm_machine.specs.Frame.{frame_of, frame_to, IsTurnedIn}
use Rattle.wm_machine.specs.Role as role
use Rattle.wm_machine.specs.Role.{This}
use Rattle.wm_machine.specs.Runs.{changed_work, run_numbered}
use Rattle.wm_machine.specs.Step.{after, IsTurn}
use Rattle.wm_machine.specs.Turns.{telling, turn_of, turned, with_turn, with_turned}
use Rattle.wm_machine.specs.First.{is_waiting}
use Rattle.wm_collections.specs.Lists.{HasOne}
use Rattle.wm_machine.specs.Waiting.{left_among, left_by_runs, left_to_drain, may_leave_one}
use Rattle.wm_machine.specs.Valid.{Valid, AreApart, IsCurrentOf, IsInstanceOf, MaySucceedOrHas, IsOutForRun, IsValidRun, IsWorkOf}
use Rattle.wm_machine.specs.declared.event.Event.TheVariants as event
use Rattle.wm_machine.specs.declared.record.How.TheVariants as how
use Rattle.wm_machine.specs.declared.record.Phase.TheVariants as phase
use Rattle.wm_worker.proofs.Giving.{gives_data}
use Rattle.wm_worker.specs.declared.answer.Given.TheVariants.{More}

-- ---- the state after it, and its frame

pub after_turn : (s : State) (number : ℕ) (progress : Option (List DataEntry)) (legal : IsTurn s number progress)
    → after s (event.Turn number progress) ≡ with_turn s legal.report.run progress
after_turn s number progress legal = ap (λ found. turn_of s found progress) legal.report.is_running

pub turn-framed : (s : State) (number : ℕ) (progress : Option (List DataEntry)) → IsTurn s number progress
    → IsTurnedIn number (More progress) s (frame_of s (event.Turn number progress))
turn-framed s number progress legal = record {
  run = legal.report.run;
  is_running = legal.report.is_running;
  frame_is =
      ap (λ (found : Option Run). frame_to (turn_of s found progress) [] (λ worker. given_lines worker found (This (More progress)))) legal.report.is_running;
}

-- ---- records

-- progress changes neither phase nor attempt, nor what was asked for
record IsToldOnly (one other : Record) : Type 0 where
  same : IsSameRequest one other
  phase_is : other.phase ≡ one.phase
  attempt : other.attempt ≡ one.attempt

telling-only : (progress : Option (List DataEntry)) (work : Record) → IsToldOnly work (telling progress work)
telling-only None work = record { same = record { seq = refl; name = λ text is. is; request = refl; prior = refl }; phase_is = refl; attempt = refl }
telling-only (Some progress) work = record { same = record { seq = refl; name = λ text is. is; request = refl; prior = refl }; phase_is = refl; attempt = refl }

-- so it is a change of the running work
IsChange-telling : (s : State) (run : Run) (progress : Option (List DataEntry)) → IfSome progress IsData → Valid s
    → AllByRecursion (OfNumber run.seq (λ work. work.phase ≡ phase.Running)) s.works → IsChange s.works (changed (telling progress) run.seq)
IsChange-telling s run progress told valid running =
    let change = changed (telling progress) run.seq in
    let kept =
    All-any s.works (λ work before. changed_both (λ c. MaySucceedOrHas c.phase) (telling progress) run.seq work
    (λ e. subst MaySucceedOrHas (sym (telling-only progress work).phase_is) before) (λ differs. before)) in
    IsChange-one s.works run.seq (telling progress) (λ work. (telling-only progress work).same) valid.works.records valid.works.sound
    (All-with2 s.works (λ work runs fine e. IsRecord-telling progress work told (runs e) fine) running valid.works.records)
    (All-weaker s.works (λ work sound e. subst (MovesTo s.works change work.phase work.prior) (sym (telling-only progress work).phase_is)
    (moves-kept s.works change work.phase work.prior sound (λ waits. all_open s.works change work.prior kept))) valid.works.sound)
    (All-weaker s.works (λ work is e succeeded. let clash : phase.Running ≡ phase.Done how.Succeeded = sym (is e) ∙ succeeded in absurd (cc)) running)
    (All-weaker s.works (λ work is e. subst MaySucceedOrHas (sym ((telling-only progress work).phase_is ∙ is e)) tt) running)

IsWorkOf-told : (run : Run) (one other : Record) → IsToldOnly one other → IsWorkOf run one → IsWorkOf run other
IsWorkOf-told run one other told of = record {
  seq = told.same.seq ∙ of.seq;
  running = told.phase_is ∙ of.running;
  attempt = told.attempt ∙ of.attempt;
  renewed = λ is. ap (λ (l : List ℕ × Bool). l.1) told.same.request ∙ of.renewed is;
}

-- ---- runs

-- a run, at its next turn where it has this number
abbrev pub turned_at : ℕ → Run → Run
turned_at number run = cond (eqb run.run number) (turned run) run

-- what holds in both cases
pub turned_both : (P : Run → Type 0) (number : ℕ) (run : Run) → (run.run ≡ number → P (turned run)) → ((run.run ≡ number → ⊥) → P run)
    → P (turned_at number run)
turned_both P number run hit miss =
    cond_both (eqb run.run number) (turned run) run P (λ e. hit (eqb-true run.run number e)) (λ e. miss (eqb-false run.run number e))

AreApart-turned : (number : ℕ) (one other : Run) → AreApart one other → AreApart (turned_at number one) (turned_at number other)
AreApart-turned number one other apart =
    turned_both (λ r. AreApart r (turned_at number other)) number one (λ e. turned_both (AreApart (turned one)) number other
    (λ e. record { runs = apart.runs; works = apart.works; instances = apart.instances })
    (λ e. record { runs = apart.runs; works = apart.works; instances = apart.instances }))
    (λ e. turned_both (AreApart one) number other (λ e. record { runs = apart.runs; works = apart.works; instances = apart.instances }) (λ e. apart))

-- a work keeps its run
current_stays : (number seq : ℕ) (runs : List Run) → HasOne (IsCurrentOf seq) runs → HasOne (IsCurrentOf seq) (with_turned number runs)
current_stays number seq runs one =
    HasOne-map _ (turned_at number) runs (λ r is. turned_both (IsCurrentOf seq) number r (λ e. record { of = is.of; current = is.current }) (λ e. is)) one

-- a run keeps its work
work_stays : (progress : Option (List DataEntry)) (seq : ℕ) (works : List Record) (run : Run) → HasOne (IsWorkOf run) works
    → HasOne (IsWorkOf run) (changed_work (telling progress) seq works)
work_stays progress seq works run one =
    HasOne-map _ (changed (telling progress) seq) works (λ w is. changed_both (IsWorkOf run) (telling progress) seq w
    (λ e. IsWorkOf-told run w (telling progress w) (telling-only progress w) is) (λ e. is)) one

-- and at its next turn it has the same work and the same instance
work_of-turned : (run : Run) (works : List Record) → HasOne (IsWorkOf run) works → HasOne (IsWorkOf (turned run)) works
work_of-turned run works one =
    HasOne-weaker works (λ w of. record { seq = of.seq; running = of.running; attempt = of.attempt; renewed = of.renewed }) one

instance_of-turned : (run : Run) (instances : List Instance) → HasOne (IsInstanceOf run) instances → HasOne (IsInstanceOf (turned run)) instances
instance_of-turned run instances one = HasOne-weaker instances (λ i of. record { number = of.number; kind = of.kind }) one

-- an instance is out as before
IsOutForRun-turned : (number : ℕ) (runs : List Run) (i : Instance) → IsOutForRun runs i → IsOutForRun (with_turned number runs) i
IsOutForRun-turned number runs i out =
    out ∙ sym (list_any-same (λ r. eqb r.instance i.number) (turned_at number) runs
    (λ r. turned_both (λ (x : Run). eqb x.instance i.number ≡ eqb r.instance i.number) number r (λ e. refl) (λ e. refl)))

-- ---- the state

-- a running work keeps its run, whatever it tells
running_stays : (progress : Option (List DataEntry)) (number seq : ℕ) (runs : List Run) (w : Record)
    → (w.phase ≡ phase.Running → HasOne (IsCurrentOf w.seq) runs)
    → (changed (telling progress) seq w).phase ≡ phase.Running → HasOne (IsCurrentOf (changed (telling progress) seq w).seq) (with_turned number runs)
running_stays progress number seq runs w has =
    let told = telling-only progress w in
    changed_both (λ c. c.phase ≡ phase.Running → HasOne (IsCurrentOf c.seq) (with_turned number runs)) (telling progress) seq w
    (λ e running. subst (λ n. HasOne (IsCurrentOf n) (with_turned number runs)) (sym told.same.seq)
    (current_stays number w.seq runs (has (sym told.phase_is ∙ running)))) (λ e running. current_stays number w.seq runs (has running))

-- a valid run stays valid, whether it is the one that is turned or apart from it
IsValidRun-turned : (s : State) (run r : Run) (progress : Option (List DataEntry)) → run.turn < 999 → IsFoundOrApart run.run run r
    → IsValidRun s.works s.instances s.next_run r → IsValidRun (changed_work (telling progress) run.seq s.works) s.instances s.next_run (turned_at run.run r)
IsValidRun-turned s run r progress early told is =
    let works = changed_work (telling progress) run.seq s.works in
    let work : r.current ≡ true → HasOne (IsWorkOf r) works = λ current. work_stays progress run.seq s.works r (is.work current) in
    turned_both (IsValidRun works s.instances s.next_run) run.run r (λ e. record {
      number = is.number;
      turn = elim told [
        | inl found ↦ subst (λ (x : Run). x.turn + 1 ≤ 999) (sym found.1) (omega (arith, early))
        | inr apart ↦ absurd (true≢false (sym (eq-eqb r.run run.run e) ∙ apart.0))
      ];
      input = is.input;
      work = λ current. work_of-turned r works (work current);
      instance = instance_of-turned r s.instances is.instance;
    }) (λ e. record { number = is.number; turn = is.turn; input = is.input; work = work; instance = is.instance })

reached-turned : (s : State) (number : ℕ) (run : Run) (progress : Option (List DataEntry)) → IfSome progress IsData → run.turn < 999 → Valid s
    → run_numbered number s.runs ≡ Some run → run.current ≡ true → Valid (with_turn s run progress)
reached-turned s number run progress told early valid found current =
    let same : run.run ≡ number = eqb-true run.run number (find-passes (λ r. eqb r.run number) s.runs run found) in
    let is = IsChange-telling s run progress told valid (running_of s number run valid found current) in
    record {
      works = AreWorks-changed s.next s.works (changed (telling progress) run.seq) valid.works is;
      runs = record {
        running = All-map _ (changed (telling progress) run.seq) s.works (λ w has. running_stays progress run.run run.seq s.runs w has) valid.runs.running;
        each = All-map2 _ (turned_at run.run) s.runs (λ r told fine. IsValidRun-turned s run r progress early told fine)
            (found_or_apart run.run run s.runs (subst (λ n. run_numbered n s.runs ≡ Some run) (sym same) found) valid.runs.apart) valid.runs.each;
        apart = AllLater-map _ (turned_at run.run) s.runs (AreApart-turned run.run) valid.runs.apart;
      };
      instances = record {
        out = All-weaker s.instances (IsOutForRun-turned run.run s.runs) valid.instances.out;
        few = valid.instances.few;
        numbered = valid.instances.numbered;
      };
      few_observers = valid.few_observers;
      now = valid.now;
    }

-- ---- what it keeps

-- a turn renews no run
left_by_runs-turned : (number : ℕ) (runs : List Run) → left_by_runs (with_turned number runs) ≡ left_by_runs runs
left_by_runs-turned number runs =
    count-same may_leave_one (turned_at number) runs
    (λ run. turned_both (λ r. may_leave_one r ≡ may_leave_one run) number run (λ e. refl) (λ e. refl))

pub turn-kept : (s : State) (number : ℕ) (progress : Option (List DataEntry)) → Valid s → IsTurn s number progress
    → IsKept (role.GoesOn number (More progress)) s (after s (event.Turn number progress))
turn-kept s number progress reached legal =
    let report = legal.report in
    let run = report.run in
    let taken = (found_valid s number run reached report.is_running).input in
    let told = gives_data run.kind run.input run.attempt run.turn (More progress) taken report.may_give in
    let running = running_of s number run reached report.is_running report.is_current in
    let is = IsChange-telling s run progress told reached running in
    let then = map (changed (telling progress) run.seq) s.works in
    let works : left_among s.now then ≤ left_among s.now s.works =
    left_among-changed s.now s.works (changed (telling progress) run.seq) is (left-one s.now run.seq (telling progress) s.works is
    (All-weaker s.works (λ work runs e. left-idle s.now then (telling progress work) (ap is_waiting ((telling-only progress work).phase_is ∙ runs e)))
    running)) in
    let runs : left_by_runs (with_turned run.run s.runs) ≡ left_by_runs s.runs = left_by_runs-turned run.run s.runs in
    let left : left_to_drain (with_turn s run progress) ≤ left_to_drain s = omega (arith, works, runs) in
    rw (after_turn s number progress legal) record {
      reached = reached-turned s number run progress told legal.turns_left reached report.is_running report.is_current;
      left = left;
    }
