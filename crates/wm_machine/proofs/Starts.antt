-- The start of a run.
use Rattle.std.proofs.Common.{◌≡◌, ℕ, ◌+◌, Bool, true, false, eqb, cond, ◌||◌, List, [], ◌∷◌, ◌++◌, map, Some, refl, sym, ◌∙◌, ap, subst, arith, ◌<◌, ◌≤◌}
use Rattle.std.specs.List.{AllByRecursion}
use Rattle.std.proofs.lemmas.Bool.{eq-eqb, ne_eqb, eqb-false, false≢true, or_left, or_right}
use Rattle.std.proofs.lemmas.List.Folds.{list_any-append}
use Rattle.std.proofs.lemmas.List.{length-map}
use Rattle.wm_data.specs.Size.{IsData}
use Rattle.wm_machine.specs.Types.{DataEntry, Instance, Record, Run, State}
use Rattle.wm_machine.proofs.Changes.{AreWorks-changed, IsChange, IsChange-one, MovesTo}
use Rattle.wm_machine.proofs.Endings.{open-waiting, waiting-succeeded}
use Rattle.wm_machine.proofs.Firsts.{first_of-startable, first_of-stored, first_of-waiting, idle_instance-idle, idle_instance-stored, IsStartable-from}
use Rattle.wm_machine.proofs.Inputs.{input_of-data}
use Rattle.wm_collections.proofs.Lists.{All-any, All-map, All-push, All-weaker, All-with2, AllLater-push, HasOne-front, HasOne-last, count-push, none_pass, one_gives}
use Rattle.wm_machine.proofs.Owed.{IsKept}
use Rattle.wm_machine.proofs.Records.{IsRecord-started}
use Rattle.wm_machine.proofs.Runnings.{AreNumberedInOrder-made, changed, changed_both, changed_there, IsAlone-stored, made, made_both, made_there, old_work, other_number, same_instance}
use Rattle.wm_machine.proofs.Waitings.{left-idle, left-one, left_among-started, met-succeeded}
use Rattle.wm_machine.specs.First.{first_of, idle_instance, is_waiting}
use Rattle.wm_machine.specs.Diaries.{Began}
use Rattle.wm_machine.specs.Frame.{begun_frame, Frame, frame_of, frame_to, IsBegunIn}
use Rattle.wm_machine.specs.Role as role
use Rattle.wm_machine.specs.Runs.{run_on, start_on, started, with_out, with_start}
use Rattle.wm_machine.specs.Step.{after, IsStart, start_of}
use Rattle.wm_collections.specs.Lists.{HasOne}
use Rattle.wm_machine.specs.Valid.{Valid, IsCurrentOf, IsInstanceOf, IsOutForRun, IsWorkOf}
use Rattle.wm_machine.specs.Waiting.{is_left, left_among, left_by_runs, left_to_drain, may_leave_one}
use Rattle.wm_machine.specs.declared.event.Event.TheVariants as event
use Rattle.wm_machine.specs.declared.record.Phase.TheVariants as phase

-- ---- the state after it, and its frame

-- a start leads to the state with its run
pub after_start : (s : State) (run seq instance : ℕ) (input : List DataEntry) (legal : IsStart s run seq instance input)
    → after s (event.Start run seq instance input) ≡ with_start s legal.work legal.idle input
after_start s run seq instance input legal = ap (λ found. start_of s found input) legal.is_first ∙ ap (λ found. start_on s legal.work found input) legal.is_idle

-- a start brings its run, whose instance is out, and its worker writes that it began
pub frame-start : (s : State) (run seq instance : ℕ) (input : List DataEntry) (legal : IsStart s run seq instance input)
    → frame_of s (event.Start run seq instance input) ≡ begun_frame s run instance (run_on s legal.work legal.idle input)
frame-start s run seq instance input legal =
    ap (λ (t : State). frame_to t [] (λ worker. cond (eqb instance worker) (Began run ∷ []) [])) (after_start s run seq instance input legal)
    ∙ ap (λ n. let f : Frame = record {
      commands = [];
      runs = s.runs ++ run_on s legal.work legal.idle input ∷ [];
      instances = with_out true n s.instances;
      next_run = s.next_run + 1;
      lines = λ worker. cond (eqb instance worker) (Began run ∷ []) [];
    } in f) (sym legal.instance_is)

pub start-framed : (s : State) (run seq instance : ℕ) (input : List DataEntry) → IsStart s run seq instance input
    → IsBegunIn run instance s (frame_of s (event.Start run seq instance input))
start-framed s run seq instance input legal = record {
  run = run_on s legal.work legal.idle input;
  number_is = legal.run_is;
  is_next = legal.run_is;
  instance_is = legal.instance_is;
  frame_is = frame-start s run seq instance input legal;
}

-- ---- what it keeps

-- no run is on an instance that isn't out
free_instance : (s : State) (idle : Instance) → Valid s → idle.out ≡ false → HasOne (λ other. other ≡ idle) s.instances
    → AllByRecursion (λ run. eqb run.instance idle.number ≡ false) s.runs
free_instance s idle valid is_in stored =
    none_pass (λ run. eqb run.instance idle.number) s.runs (one_gives s.instances
    (λ other is same. sym (subst (IsOutForRun s.runs) same is) ∙ is_in) valid.instances.out stored)

-- what doesn't pass makes no difference
or_neither : (x b : Bool) → b ≡ false → (x || (b || false)) ≡ x
or_neither true b e = refl
or_neither false true e = e
or_neither false false e = refl

-- an instance is out exactly where a run is on it, after a start on this one
IsOutForRun-made : (runs : List Run) (run : Run) (other : Instance) → IsOutForRun runs other → IsOutForRun (runs ++ run ∷ []) (made true run.instance other)
IsOutForRun-made runs run other out =
    made_both (IsOutForRun (runs ++ run ∷ [])) true run.instance other
    (λ e. sym (list_any-append (λ r. eqb r.instance other.number) runs (run ∷ []) ∙ or_right _ _ (or_left _ _ (eq-eqb run.instance other.number (sym e)))))
    (λ e. out ∙ sym
    (list_any-append (λ r. eqb r.instance other.number) runs (run ∷ []) ∙ or_neither _ _ (ne_eqb run.instance other.number (λ same. e (sym same)))))

-- the first work may run, since its prerequisites have succeeded
IsChange-started : (s : State) (work : Record) → Valid s → first_of s ≡ Some work → IsChange s.works (changed started work.seq)
IsChange-started s work valid first =
    let startable = IsStartable-from s work (first_of-startable s work first) in
    let alone = IsAlone-stored work s.works valid.works.in_order (first_of-stored s work first) in
    let met = met-succeeded s.works work startable.prerequisites in
    IsChange-one s.works work.seq started (λ other. record { seq = refl; name = λ text is. is; request = refl; prior = refl })
    valid.works.records valid.works.sound
    (All-with2 s.works (λ other same fine e. IsRecord-started other (ap (λ (w : Record). is_waiting w.phase) (same e) ∙ startable.waiting) fine) alone
    valid.works.records)
    (All-weaker s.works (λ other same e. subst (λ (w : Record). MovesTo s.works (changed started work.seq) w.phase w.prior phase.Running) (sym (same e))
    (open-waiting work.phase startable.waiting, met)) alone) (All-weaker s.works (λ other same e succeeded.
    waiting-succeeded work.phase startable.waiting (sym (ap (λ (w : Record). w.phase) (same e)) ∙ succeeded)) alone) (All-any s.works (λ other e. tt))

reached-start : (s : State) (work : Record) (idle : Instance) (input : List DataEntry) → Valid s → first_of s ≡ Some work
    → idle_instance s.instances work.request.class ≡ Some idle → IsData input → Valid (with_start s work idle input)
reached-start s work idle input valid first found data_is =
    let stored = first_of-stored s work first in
    let waiting = first_of-waiting s work first in
    let alone = IsAlone-stored work s.works valid.works.in_order stored in
    let there = idle_instance-stored s.instances work.request.class idle found in
    let free = free_instance s idle valid (idle_instance-idle s.instances work.request.class idle found).is_in there in
    let run = run_on s work idle input in
    record {
      works = AreWorks-changed s.next s.works (changed started work.seq) valid.works (IsChange-started s work valid first);
      runs = record {
        running = All-map _ (changed started work.seq) s.works (λ w has.
            changed_both (λ c. c.phase ≡ phase.Running → HasOne (IsCurrentOf c.seq) (s.runs ++ run ∷ [])) started work.seq w
            (λ e running. HasOne-last _ s.runs run (record { of = sym e; current = refl }))
            (λ e running. HasOne-front _ s.runs (run ∷ []) (has running))) valid.runs.running;
        each = All-push _ s.runs run (All-weaker s.runs (λ r is. let below = is.number in record {
          number = omega arith;
          turn = is.turn;
          input = is.input;
          work = λ current. old_work started work s.works r waiting alone (is.work current);
          instance = same_instance true idle.number s.instances r is.instance;
        }) valid.runs.each) (record {
          number = omega arith;
          turn = omega arith;
          input = data_is;
          work = λ current. changed_there (IsWorkOf run) started work s.works (record { seq = refl; running = refl; attempt = refl; renewed = λ is. absurd (false≢true is) })
              stored;
          instance = made_there (IsInstanceOf run) true idle s.instances (record { number = refl; kind = refl }) there;
        });
        apart = AllLater-push _ s.runs run valid.runs.apart (All-with2 s.runs (λ r is differs. let below = is.number in record {
          runs = λ e. absurd (omega arith);
          works = λ current also. other_number work s.works r waiting alone (is.work current);
          instances = eqb-false r.instance idle.number differs;
        }) valid.runs.each free);
      };
      instances = record {
        out = All-map _ (made true idle.number) s.instances (IsOutForRun-made s.runs run) valid.instances.out;
        few = subst (λ n. n ≤ 10000) (sym (length-map s.instances (made true idle.number))) valid.instances.few;
        numbered = AreNumberedInOrder-made true idle.number 0 s.instances valid.instances.numbered;
      };
      few_observers = valid.few_observers;
      now = valid.now;
    }

pub start-kept : (s : State) (run seq instance : ℕ) (input : List DataEntry) → Valid s → IsStart s run seq instance input
    → IsKept (role.Begins run instance) s (after s (event.Start run seq instance input))
start-kept s run seq instance input reached legal =
    let stored = first_of-stored s legal.work legal.is_first in
    let taken = input_of-data s legal.work input reached.works.records stored legal.input_is in
    let change = changed started legal.work.seq in
    let is = IsChange-started s legal.work reached legal.is_first in
    let idle = λ (w : Record). left-idle s.now (map change s.works) (started w) refl in
    let here : change legal.work ≡ started legal.work = ap (λ b. cond b (started legal.work) legal.work) (eq-eqb legal.work.seq legal.work.seq refl) in
    let works : left_among s.now (map change s.works) < left_among s.now s.works =
    left_among-started s legal.work change legal.is_first is (left-one s.now legal.work.seq started s.works is (All-any s.works (λ w e. idle w)))
    (ap (is_left s.now (map change s.works)) here ∙ idle legal.work) in
    let new = run_on s legal.work legal.idle input in
    let runs : left_by_runs (s.runs ++ new ∷ []) ≡ left_by_runs s.runs + 0 = count-push may_leave_one s.runs new in
    let left : left_to_drain (with_start s legal.work legal.idle input) < left_to_drain s = omega (arith, works, runs) in
    rw (after_start s run seq instance input legal) record {
      reached = reached-start s legal.work legal.idle input reached legal.is_first legal.is_idle taken;
      left = left;
    }
