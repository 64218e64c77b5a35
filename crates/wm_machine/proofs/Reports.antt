-- That each run is reported once.
use Rattle.std.proofs.Common.{◌≡◌, ℕ, ◌+◌, ◌≤◌, ◌<◌, Bool, false, eqb, not, List, [], ◌∷◌, ◌++◌, map, Option, Some, None, option_map, cond, true, refl, sym, ◌∙◌, ap, subst, arith, inl, inr}
use Rattle.std.specs.Prelude.{count_by}
use Rattle.std.proofs.lemmas.Bool.{cases_Bool, cond_both, eq-eqb, eqb-true, ne_eqb, not-false, not-true}
use Rattle.wm_collections.specs.Lists.{AllLater}
use Rattle.wm_machine.specs.Types.{Command, DataEntry, Event, Run, State}
use Rattle.wm_collections.proofs.Lists.{All-any, All-passing, All-weaker, find-fails, count-cons, count-failing, count-filter, count-none, count-push, count-same, find-passes, weight}
use Rattle.wm_machine.proofs.Runnings.{found_valid}
use Rattle.wm_machine.proofs.Steps.{framed, Valid-after}
use Rattle.wm_machine.proofs.Starts.{after_start}
use Rattle.wm_machine.proofs.StoppedRuns.{current-end, not_current_then, stopped-late, stopped_by_line}
use Rattle.wm_machine.proofs.Turns.{turned_at, turned_both}
use Rattle.wm_machine.specs.Diaries.{DiaryLine}
use Rattle.wm_machine.specs.Frame.{Frame, frame_to, untouched}
use Rattle.wm_machine.specs.Replay.{Replay, state_after}
use Rattle.wm_machine.specs.Reports.{current_in, is_report_of, is_start_of, reports_in, starts_in, IsReportedOnce, IsStoppedIn}
use Rattle.wm_machine.specs.Runs.{other_runs, run_numbered, run_on}
use Rattle.wm_machine.specs.Step.{after, Legal}
use Rattle.wm_machine.specs.Turns.{with_turned}
use Rattle.wm_machine.specs.Valid.{Valid, AreApart}
use Rattle.wm_machine.specs.declared.event.Event.TheVariants as event

-- ---- how many runs have a number

abbrev has_number : ℕ → Run → Bool
has_number number run = eqb run.run number

abbrev runs_with : ℕ → List Run → ℕ
runs_with number runs = count_by (has_number number) runs

-- a run that is found is the only one of its number
one_found : (number : ℕ) (run : Run) (runs : List Run) → run_numbered number runs ≡ Some run → AllLater AreApart runs → runs_with number runs ≡ 1
one_found number run [] found apart = absurd (cc)
one_found number run (first ∷ runs) found apart =
    let then = count-cons (has_number number) first runs in
    cond_both (eqb first.run number) (Some first) (run_numbered number runs) (λ (o : Option Run). o ≡ Some run → runs_with number (first ∷ runs) ≡ 1) (λ e is.
    let here : weight (has_number number first) ≡ 1 = ap weight e in
    let others =
    count-none (has_number number) runs (All-weaker runs (λ r a. ne_eqb r.run number (λ same. a.runs (eqb-true first.run number e ∙ sym same))) apart.0) in
    omega (arith, then, here, others)) (λ e is.
    let here : weight (has_number number first) ≡ 0 = ap weight e in
    let others = one_found number run runs is apart.1 in
    omega (arith, then, here, others)) found

-- none of the others has the number
none_other : (number : ℕ) (runs : List Run) → runs_with number (other_runs number runs) ≡ 0
none_other number runs =
    count-none (has_number number) (other_runs number runs)
    (All-weaker (other_runs number runs) (λ r differs. not-true (eqb r.run number) differs) (All-passing (λ r. not (eqb r.run number)) runs))

-- the runs of a number, once one is over
ended_count : (number ended : ℕ) (run : Run) (runs : List Run) → run_numbered ended runs ≡ Some run → AllLater AreApart runs
    → weight (eqb ended number) + runs_with number (other_runs run.run runs) ≡ runs_with number runs
ended_count number ended run runs found apart =
    let same : run.run ≡ ended = eqb-true run.run ended (find-passes (λ r. eqb r.run ended) runs run found) in
    subst (λ n. weight (eqb ended number) + runs_with number (other_runs n runs) ≡ runs_with number runs) (sym same) (elim (cases_Bool (eqb ended number)) [
      | inl e ↦
          let is : ended ≡ number = eqb-true ended number e in
          let here : weight (eqb ended number) ≡ 1 = ap weight e in
          let one = subst (λ n. runs_with n runs ≡ 1) is (one_found ended run runs found apart) in
          let none = subst (λ n. runs_with number (other_runs n runs) ≡ 0) (sym is) (none_other number runs) in
          omega (arith, here, one, none)
      | inr e ↦
          let here : weight (eqb ended number) ≡ 0 = ap weight e in
          let rest =
          count-filter (has_number number) (λ r. not (eqb r.run ended)) runs (All-any runs (λ r dropped.
          ap (λ n. eqb n number) (eqb-true r.run ended (not-false (eqb r.run ended) dropped)) ∙ e)) in
          omega (arith, here, rest)
    ])

-- no run of a valid state has the number of the next, or a later one
none_later : (number : ℕ) (s : State) → Valid s → s.next_run ≤ number → runs_with number s.runs ≡ 0
none_later number s valid later =
    count-none (has_number number) s.runs
    (All-weaker s.runs (λ r is. ne_eqb r.run number (λ e. let below = is.number in absurd (omega (arith, below, later, e)))) valid.runs.each)

-- a run that is found has an earlier number than the next
found_earlier : (number : ℕ) (s : State) (run : Run) → Valid s → run_numbered number s.runs ≡ Some run → number < s.next_run
found_earlier number s run valid found =
    let same : run.run ≡ number = eqb-true run.run number (find-passes (λ r. eqb r.run number) s.runs run found) in
    subst (λ n. n < s.next_run) same (found_valid s number run valid found).number

-- ---- one event

-- the number of the next run doesn't fall, and an event starts or reports only a run whose number is before it
record IsEarly (number : ℕ) (s : State) (e : Event) (t : State) : Type 0 where
  grows : s.next_run ≤ t.next_run
  no_start : t.next_run ≤ number → is_start_of number e ≡ false
  no_report : s.next_run ≤ number → is_report_of number e ≡ false

-- of a run that has started, an event starts none, and it reports one that it takes away
record IsCounted (number : ℕ) (s : State) (e : Event) (t : State) : Type 0 where
  no_start : is_start_of number e ≡ false
  left : weight (is_report_of number e) + runs_with number t.runs ≡ runs_with number s.runs

-- an event that leaves the runs as they are
record LeavesRuns (s t : State) : Type 0 where
  runs_are : t.runs ≡ s.runs
  next_is : t.next_run ≡ s.next_run

untouched_runs : (s t : State) (f : Frame) (commands : List Command) (lines : ℕ → List DiaryLine) → frame_to t commands lines ≡ f → f.runs ≡ s.runs
    → f.next_run ≡ s.next_run → LeavesRuns s t
untouched_runs s t f commands lines same runs next =
    record { runs_are = ap (λ (f : Frame). f.runs) same ∙ runs; next_is = ap (λ (f : Frame). f.next_run) same ∙ next }

early_untouched : (number : ℕ) (s t : State) (e : Event) → LeavesRuns s t → is_start_of number e ≡ false → is_report_of number e ≡ false → IsEarly number s e t
early_untouched number s t e same start report =
    let next = same.next_is in record { grows = omega (arith, next); no_start = λ later. start; no_report = λ later. report }

counted_untouched : (number : ℕ) (s t : State) (e : Event) → LeavesRuns s t → is_start_of number e ≡ false → is_report_of number e ≡ false
    → IsCounted number s e t
counted_untouched number s t e same start report =
    let none : weight (is_report_of number e) ≡ 0 = ap weight report in
    record { no_start = start; left = rw same.runs_are (omega (arith, none)) }

early_ended : (number ended : ℕ) (run : Run) (s : State) (e : Event) → Valid s → is_start_of number e ≡ false
    → is_report_of number e ≡ eqb ended number → run_numbered ended s.runs ≡ Some run → (after s e).next_run ≡ s.next_run → IsEarly number s e (after s e)
early_ended number ended run s e valid start report found next =
    let earlier = found_earlier ended s run valid found in
    record {
      grows = omega (arith, next);
      no_start = λ later. start;
      no_report = λ later. report ∙ ne_eqb ended number (λ e. absurd (omega (arith, earlier, later, e)));
    }

counted_ended : (number ended : ℕ) (run : Run) (s : State) (e : Event) → Valid s → is_start_of number e ≡ false
    → is_report_of number e ≡ eqb ended number → run_numbered ended s.runs ≡ Some run → (after s e).runs ≡ other_runs run.run s.runs
    → IsCounted number s e (after s e)
counted_ended number ended run s e valid start report found runs =
    let count = ended_count number ended run s.runs found valid.runs.apart in
    let one : weight (is_report_of number e) ≡ weight (eqb ended number) = ap weight report in
    record { no_start = start; left = rw runs (omega (arith, count, one)) }

early : (number : ℕ) (s : State) (e : Event) → Valid s → Legal s e → IsEarly number s e (after s e)
early number s (event.Command line asked answer) valid legal =
    let next : (after s (event.Command line asked answer)).next_run ≡ s.next_run =
    ap (λ (f : Frame). f.next_run) (framed s (event.Command line asked answer) legal).frame_is in
    record { grows = omega (arith, next); no_start = λ later. refl; no_report = λ later. refl }
early number s (event.Start run seq instance input) valid legal =
    let e = event.Start run seq instance input in
    let is = framed s e legal in
    let next : (after s e).next_run ≡ s.next_run + 1 = ap (λ (f : Frame). f.next_run) is.frame_is in
    let first = is.is_next in
    record {
      grows = omega (arith, next);
      no_start = λ later. ne_eqb run number (λ same. absurd (omega (arith, next, first, later, same)));
      no_report = λ later. refl;
    }
early number s (event.StartFailed seq cause) valid legal =
    let e = event.StartFailed seq cause in
    early_untouched number s (after s e) e (untouched_runs s (after s e) (untouched s []) [] (λ w. []) (framed s e legal) refl refl) refl refl
early number s (event.Turn run progress) valid legal =
    let e = event.Turn run progress in
    let next : (after s e).next_run ≡ s.next_run = ap (λ (f : Frame). f.next_run) (framed s e legal).frame_is in
    record { grows = omega (arith, next); no_start = λ later. refl; no_report = λ later. refl }
early number s (event.Finish run end) valid legal =
    let is = framed s (event.Finish run end) legal in
    early_ended number run is.run s (event.Finish run end) valid refl refl is.is_running (ap (λ (f : Frame). f.next_run) is.frame_is)
early number s (event.TimedOut run) valid legal =
    let is = framed s (event.TimedOut run) legal in
    early_ended number run is.run s (event.TimedOut run) valid refl refl is.is_running (ap (λ (f : Frame). f.next_run) is.frame_is)
early number s (event.Late run) valid legal =
    let is = framed s (event.Late run) legal in
    early_ended number run is.run s (event.Late run) valid refl refl is.is_running (ap (λ (f : Frame). f.next_run) is.frame_is)

counted : (number : ℕ) (s : State) (e : Event) → Valid s → Legal s e → number < s.next_run → IsCounted number s e (after s e)
counted number s (event.Command line asked answer) valid legal earlier =
    let e = event.Command line asked answer in
    let is = framed s e legal in
    let runs : (after s e).runs ≡ map is.change s.runs = ap (λ (f : Frame). f.runs) is.frame_is in
    let same = count-same (has_number number) is.change s.runs (λ r. ap (λ n. eqb n number) (is.keeps r).run) in
    record { no_start = refl; left = rw runs (omega (arith, same)) }
counted number s (event.Start run seq instance input) valid legal earlier =
    let e = event.Start run seq instance input in
    let is = framed s e legal in
    let runs : (after s e).runs ≡ s.runs ++ is.run ∷ [] = ap (λ (f : Frame). f.runs) is.frame_is in
    let other : eqb run number ≡ false = let first = is.is_next in ne_eqb run number (λ same. absurd (omega (arith, first, earlier, same))) in
    let none : weight (has_number number is.run) ≡ 0 = ap weight (ap (λ n. eqb n number) (sym is.number_is) ∙ other) in
    let more = count-push (has_number number) s.runs is.run in
    record { no_start = other; left = rw runs (omega (arith, more, none)) }
counted number s (event.StartFailed seq cause) valid legal earlier =
    let e = event.StartFailed seq cause in
    counted_untouched number s (after s e) e (untouched_runs s (after s e) (untouched s []) [] (λ w. []) (framed s e legal) refl refl) refl refl
counted number s (event.Turn run progress) valid legal earlier =
    let e = event.Turn run progress in
    let is = framed s e legal in
    let runs : (after s e).runs ≡ with_turned is.run.run s.runs = ap (λ (f : Frame). f.runs) is.frame_is in
    let same =
    count-same (has_number number) (turned_at is.run.run) s.runs
    (λ r. turned_both (λ (x : Run). eqb x.run number ≡ eqb r.run number) is.run.run r (λ e. refl) (λ e. refl)) in
    record { no_start = refl; left = rw runs (omega (arith, same)) }
counted number s (event.Finish run end) valid legal earlier =
    let is = framed s (event.Finish run end) legal in
    counted_ended number run is.run s (event.Finish run end) valid refl refl is.is_running (ap (λ (f : Frame). f.runs) is.frame_is)
counted number s (event.TimedOut run) valid legal earlier =
    let is = framed s (event.TimedOut run) legal in
    counted_ended number run is.run s (event.TimedOut run) valid refl refl is.is_running (ap (λ (f : Frame). f.runs) is.frame_is)
counted number s (event.Late run) valid legal earlier =
    let is = framed s (event.Late run) legal in
    counted_ended number run is.run s (event.Late run) valid refl refl is.is_running (ap (λ (f : Frame). f.runs) is.frame_is)

-- ---- a log

-- a state that a log leads to, in its middle
pub record HasMiddle (first : State) (before : List Event) (e : Event) (later : List Event) (last : State) : Type 0 where
  pub middle : State
  pub to_middle : Replay first before middle
  pub legal : Legal middle e
  pub from_middle : Replay (after middle e) later last

pub middle_of : (first : State) (before : List Event) (e : Event) (later : List Event) (last : State) → Replay first (before ++ e ∷ later) last
    → HasMiddle first before e later last
middle_of first [] e later last replays = record { middle = first; to_middle = refl; legal = replays.0; from_middle = replays.1 }
middle_of first (d ∷ before) e later last replays =
    let rest = middle_of (after first d) before e later last replays.1 in
    record { middle = rest.middle; to_middle = (replays.0, rest.to_middle); legal = rest.legal; from_middle = rest.from_middle }

reached_by : (first : State) (log : List Event) (last : State) → Valid first → Replay first log last → Valid last
reached_by first [] last reached replays = subst Valid (sym replays) reached
reached_by first (e ∷ log) last reached replays = reached_by (after first e) log last (Valid-after first e reached replays.0) replays.1

-- a log after which the next run has this number, or an earlier one, neither starts nor reports it
record IsBeforeStart (number : ℕ) (first : State) (log : List Event) (last : State) : Type 0 where
  grows : first.next_run ≤ last.next_run
  no_start : last.next_run ≤ number → starts_in log number ≡ 0
  no_report : last.next_run ≤ number → reports_in log number ≡ 0

before_start : (number : ℕ) (first : State) (log : List Event) (last : State) → Valid first → Replay first log last → IsBeforeStart number first log last
before_start number first [] last reached replays = record { grows = rw replays (omega arith); no_start = λ later. refl; no_report = λ later. refl }
before_start number first (e ∷ log) last reached replays =
    let t = after first e in
    let here = early number first e reached replays.0 in
    let rest = before_start number t log last (Valid-after first e reached replays.0) replays.1 in
    let one = here.grows in
    let more = rest.grows in
    record {
      grows = omega (arith, one, more);
      no_start = λ later. count-failing (is_start_of number) e log (here.no_start (omega (arith, more, later))) ∙ rest.no_start later;
      no_report = λ later. count-failing (is_report_of number) e log (here.no_report (omega (arith, one, more, later))) ∙ rest.no_report later;
    }

-- a log from a state in which a run has started never starts it again, and each report of it takes it away
record IsAfterStart (number : ℕ) (first : State) (log : List Event) (last : State) : Type 0 where
  no_start : starts_in log number ≡ 0
  left : reports_in log number + runs_with number last.runs ≡ runs_with number first.runs

since_start : (number : ℕ) (first : State) (log : List Event) (last : State) → Valid first → Replay first log last → number < first.next_run
    → IsAfterStart number first log last
since_start number first [] last reached replays earlier =
    let same : runs_with number last.runs ≡ runs_with number first.runs = ap (λ (s : State). runs_with number s.runs) replays in
    record { no_start = refl; left = omega (arith, same) }
since_start number first (e ∷ log) last reached replays earlier =
    let t = after first e in
    let here = counted number first e reached replays.0 earlier in
    let grows = (early number first e reached replays.0).grows in
    let rest = since_start number t log last (Valid-after first e reached replays.0) replays.1 (omega (arith, earlier, grows)) in
    let one = here.left in
    let more = rest.left in
    let all = count-cons (is_report_of number) e log in
    record {
      no_start = count-failing (is_start_of number) e log here.no_start ∙ rest.no_start;
      left = omega (arith, one, more, all);
    }

-- ---- the states of a log

state_after-replay : (first : State) (log : List Event) (last : State) → Replay first log last → state_after first log ≡ last
state_after-replay first [] last replays = sym replays
state_after-replay first (e ∷ log) last replays = state_after-replay (after first e) log last replays.1

state_after-append : (first : State) (log more : List Event) → state_after first (log ++ more) ≡ state_after (state_after first log) more
state_after-append first [] more = refl
state_after-append first (e ∷ log) more = state_after-append (after first e) log more

next_grows : (s : State) (e : Event) → Valid s → Legal s e → s.next_run ≤ (after s e).next_run
next_grows s e valid legal = (early 0 s e valid legal).grows

-- the run of a start is current after it
current-started : (s : State) (run seq instance : ℕ) (input : List DataEntry) → Valid s → Legal s (event.Start run seq instance input)
    → current_in run (after s (event.Start run seq instance input)) ≡ Some true
current-started s run seq instance input valid legal =
    let on = run_on s legal.work legal.idle input in
    let none : run_numbered run s.runs ≡ None =
    find-fails (has_number run) s.runs (All-weaker s.runs (λ r is. ne_eqb r.run run (λ same. let below = is.number in let next = legal.run_is in
    absurd (omega (arith, below, next, same)))) valid.runs.each) in
    ap (λ (t : State). current_in run t) (after_start s run seq instance input legal)
    ∙ ap (option_map (λ (r : Run). r.current)) (found_last run s.runs on none (eq-eqb on.run run (sym legal.run_is)))
  where
    found_last : (number : ℕ) (runs : List Run) (run : Run) → run_numbered number runs ≡ None → eqb run.run number ≡ true
        → run_numbered number (runs ++ run ∷ []) ≡ Some run
    found_last number [] run none is = rw is refl
    found_last number (first ∷ runs) run none is =
        cond_both (eqb first.run number) (Some first) (run_numbered number runs)
        (λ (o : Option Run). o ≡ None → cond (eqb first.run number) (Some first) (run_numbered number (runs ++ run ∷ [])) ≡ Some run)
        (λ e some. absurd (cc)) (λ e rest. rw e (found_last number runs run rest is)) none

-- each run that starts is reported once, and its end comes too late just where a line stopped it
pub reported_once : (first last : State) (before later : List Event) (run seq instance : ℕ) (input : List DataEntry) → Valid first
    → Replay first (before ++ event.Start run seq instance input ∷ later) last
    → IsReportedOnce first run before (event.Start run seq instance input) later last
reported_once first last before later run seq instance input valid replays =
    let e = event.Start run seq instance input in
    let cut = middle_of first before e later last replays in
    let s = cut.middle in
    let t = after s e in
    let at = reached_by first before s valid cut.to_middle in
    let is = framed s e cut.legal in
    let next = is.is_next in
    let runs : t.runs ≡ s.runs ++ is.run ∷ [] = ap (λ (f : Frame). f.runs) is.frame_is in
    let number : t.next_run ≡ s.next_run + 1 = ap (λ (f : Frame). f.next_run) is.frame_is in
    let front = before_start run first before s valid cut.to_middle in
    let then = Valid-after s e at cut.legal in
    let started : run < t.next_run = omega (arith, number, next) in
    let back = since_start run t later last then cut.from_middle started in
    let none = none_later run s at (omega (arith, next)) in
    let its : weight (has_number run is.run) ≡ 1 = ap weight (eq-eqb is.run.run run (sym is.number_is)) in
    let one : runs_with run t.runs ≡ 1 = rw runs (let more = count-push (has_number run) s.runs is.run in omega (arith, more, none, its)) in
    let left = back.left in
    let current = current-started s run seq instance input at cut.legal in
    let from : t ≡ state_after first (before ++ e ∷ []) =
    sym (state_after-append first before (e ∷ []) ∙ ap (λ (m : State). state_after m (e ∷ [])) (state_after-replay first before s cut.to_middle)) in
    record {
      not_started_before = front.no_start (omega (arith, next));
      not_started_later = back.no_start;
      not_reported_before = front.no_report (omega (arith, next));
      at_most_once = omega (arith, left, one);
      just_once = λ quiet. let none_left : runs_with run last.runs ≡ 0 = ap (runs_with run) quiet.no_run in omega (arith, left, one, none_left);
      late = λ between rest same.
          let then_cut = middle_of t between (event.Late run) rest last (subst (λ log. Replay t log last) same cut.from_middle) in
          subst (λ from. IsStoppedIn run from between) from
          (stopped_by_line run next_grows t between then_cut.middle then then_cut.to_middle started current
          (stopped-late run then_cut.middle then_cut.legal));
      counts = λ between rest end is_end same stopped.
          let then_cut = middle_of t between end rest last (subst (λ log. Replay t log last) same cut.from_middle) in
          not_current_then run next_grows t between then_cut.middle then then_cut.to_middle started
          (subst (λ from. IsStoppedIn run from between) (sym from) stopped)
          (current-end run then_cut.middle end then_cut.legal is_end);
    }
