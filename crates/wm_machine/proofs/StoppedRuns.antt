-- When a run is current, through the events of a log.
use Rattle.std.proofs.Common.{◌≡◌, ◌⊎◌, ℕ, ◌<◌, ◌≤◌, Bool, true, false, cond, eqb, List, [], ◌∷◌, ◌++◌, map, Option, Some, None, option_map, refl, sym, ◌∙◌, ap, subst, arith, inl, inr}
use Rattle.std.proofs.lemmas.Bool.{cases_Bool, eqb-true, false≢true, ne_eqb}
use Rattle.wm_collections.proofs.Lists.{find-passes}
use Rattle.wm_machine.proofs.Steps.{framed, Valid-after}
use Rattle.wm_machine.proofs.Turns.{turned_at, turned_both}
use Rattle.wm_machine.specs.Frame.{Frame, IsSameRun}
use Rattle.wm_machine.specs.Replay.{Replay}
use Rattle.wm_machine.specs.Reports.{current_in, is_end_of, IsCommand, IsStoppedIn}
use Rattle.wm_machine.specs.Runs.{other_runs, run_numbered}
use Rattle.wm_machine.specs.Step.{after, Legal}
use Rattle.wm_machine.specs.Valid.{Valid}
use Rattle.wm_machine.specs.Types.{Event, Run, State}
use Rattle.wm_machine.specs.declared.event.Event.TheVariants as event

-- ---- the run of a number, among runs that are changed

-- a change that keeps each run's number
abbrev KeepsNumber : (Run → Run) → Type 0
KeepsNumber change = (run : Run) → (change run).run ≡ run.run

found-map : (number : ℕ) (change : Run → Run) (runs : List Run) → KeepsNumber change
    → run_numbered number (map change runs) ≡ option_map change (run_numbered number runs)
found-map number change [] keeps = refl
found-map number change (run ∷ runs) keeps =
    ap (λ n. cond (eqb n number) (Some (change run)) (run_numbered number (map change runs))) (keeps run)
    ∙ ap (cond (eqb run.run number) (Some (change run))) (found-map number change runs keeps) ∙ changed_found (eqb run.run number) (run_numbered number runs)
  where
    changed_found : (is : Bool) (rest : Option Run) → cond is (Some (change run)) (option_map change rest) ≡ option_map change (cond is (Some run) rest)
    changed_found true rest = refl
    changed_found false rest = refl

-- one more of another number
found-push : (number : ℕ) (runs : List Run) (run : Run) → eqb run.run number ≡ false → run_numbered number (runs ++ run ∷ []) ≡ run_numbered number runs
found-push number [] run other = rw other refl
found-push number (first ∷ runs) run other = ap (cond (eqb first.run number) (Some first)) (found-push number runs run other)

-- the others have theirs
found-others : (number away : ℕ) (runs : List Run) → eqb away number ≡ false → run_numbered number (other_runs away runs) ≡ run_numbered number runs
found-others number away [] apart = refl
found-others number away (run ∷ runs) apart =
    let rest = found-others number away runs apart in
    elim (cases_Bool (eqb run.run away)) [
      | inl e ↦
          let not_it : eqb run.run number ≡ false = ap (λ n. eqb n number) (eqb-true run.run away e) ∙ apart in
          rw (e, not_it) rest
      | inr e ↦ rw e (ap (cond (eqb run.run number) (Some run)) rest)
    ]

-- and none has that of the run that is away
found-away : (number : ℕ) (runs : List Run) → run_numbered number (other_runs number runs) ≡ None
found-away number [] = refl
found-away number (run ∷ runs) =
    let rest = found-away number runs in
    elim (cases_Bool (eqb run.run number)) [
      | inl e ↦ rw e rest
      | inr e ↦ rw e (rw e rest)
    ]

-- ---- whether it is current, after one event

-- how it may change by one event: a run that is away stays so, one that is stopped stays so or is away, and one that is current is stopped by a
-- line alone
abbrev MayBecome : Type 0 → Option Bool → Option Bool → Type 0
MayBecome is_line None now = now ≡ None
MayBecome is_line (Some false) now = (now ≡ Some false) ⊎ (now ≡ None)
MayBecome is_line (Some true) now = (now ≡ Some true) ⊎ ((now ≡ None) ⊎ (is_line × (now ≡ Some false)))

stays : (is_line : Type 0) (before now : Option Bool) → now ≡ before → MayBecome is_line before now
stays is_line None now same = same
stays is_line (Some false) now same = inl same
stays is_line (Some true) now same = inl same

goes : (is_line : Type 0) (before now : Option Bool) → now ≡ None → MayBecome is_line before now
goes is_line None now none = none
goes is_line (Some false) now none = inr none
goes is_line (Some true) now none = inr (inl none)

-- a line may stop it
by_line : (is_line : Type 0) (change : Run → Run) (found : Option Run) → is_line → ((run : Run) → IsSameRun run (change run))
    → MayBecome is_line (option_map (λ run. run.current) found) (option_map (λ run. run.current) (option_map change found))
by_line is_line change None is keeps = refl
by_line is_line change (Some run) is keeps = by_current run.current (change run).current (keeps run).current
  where
    by_current : (was now : Bool) → (now ≡ true → was ≡ true) → MayBecome is_line (Some was) (Some now)
    by_current true true may = inl refl
    by_current true false may = inr (inr (is, refl))
    by_current false false may = inl refl
    by_current false true may = absurd (false≢true (may refl))

-- a turn leaves it
current-turned : (number : ℕ) (found : Option Run)
    → option_map (λ (run : Run). run.current) (option_map (turned_at number) found) ≡ option_map (λ run. run.current) found
current-turned number None = refl
current-turned number (Some run) = turned_both (λ r. Some r.current ≡ Some run.current) number run (λ e. refl) (λ e. refl)

-- an event takes the run of a number away
by_leaving : (is_line : Type 0) (number away : ℕ) (run : Run) (s t : State) → run_numbered away s.runs ≡ Some run → t.runs ≡ other_runs run.run s.runs
    → MayBecome is_line (current_in number s) (current_in number t)
by_leaving is_line number away run s t found runs =
    let same : run.run ≡ away = eqb-true run.run away (find-passes (λ r. eqb r.run away) s.runs run found) in
    let others : t.runs ≡ other_runs away s.runs = subst (λ n. t.runs ≡ other_runs n s.runs) same runs in
    elim (cases_Bool (eqb away number)) [
      | inl e ↦
          let is : away ≡ number = eqb-true away number e in
          goes is_line (current_in number s) (current_in number t) (ap (option_map (λ run. run.current))
          (ap (run_numbered number) (others ∙ ap (λ n. other_runs n s.runs) is) ∙ found-away number s.runs))
      | inr e ↦
          stays is_line (current_in number s) (current_in number t) (ap (option_map (λ run. run.current))
          (ap (run_numbered number) others ∙ found-others number away s.runs e))
    ]

one_event : (number : ℕ) (s : State) (e : Event) → Legal s e → number < s.next_run
    → MayBecome (IsCommand e) (current_in number s) (current_in number (after s e))
one_event number s (event.Command line asked answer) legal earlier =
    let e = event.Command line asked answer in
    let is = framed s e legal in
    let found : run_numbered number (after s e).runs ≡ option_map is.change (run_numbered number s.runs) =
    ap (run_numbered number) (ap (λ (f : Frame). f.runs) is.frame_is) ∙ found-map number is.change s.runs (λ r. (is.keeps r).run) in
    subst (λ now. MayBecome (IsCommand e) (current_in number s) (option_map (λ run. run.current) now)) (sym found)
    (by_line (IsCommand e) is.change (run_numbered number s.runs) tt is.keeps)
one_event number s (event.Start run seq instance input) legal earlier =
    let e = event.Start run seq instance input in
    let is = framed s e legal in
    let other : eqb is.run.run number ≡ false =
    let first = is.is_next in let own = is.number_is in ne_eqb is.run.run number (λ same. absurd (omega (arith, first, own, earlier, same))) in
    stays (IsCommand e) (current_in number s) (current_in number (after s e)) (ap (option_map (λ run. run.current))
    (ap (run_numbered number) (ap (λ (f : Frame). f.runs) is.frame_is) ∙ found-push number s.runs is.run other))
one_event number s (event.StartFailed seq cause) legal earlier =
    let e = event.StartFailed seq cause in
    stays (IsCommand e) (current_in number s) (current_in number (after s e)) (ap (λ (f : Frame). option_map (λ (run : Run). run.current) (run_numbered number f.runs))
    (framed s e legal))
one_event number s (event.Turn run progress) legal earlier =
    let e = event.Turn run progress in
    let is = framed s e legal in
    stays (IsCommand e) (current_in number s) (current_in number (after s e)) (ap (option_map (λ run. run.current))
    (ap (run_numbered number) (ap (λ (f : Frame). f.runs) is.frame_is)
    ∙ found-map number (turned_at is.run.run) s.runs (λ r. turned_both (λ x. x.run ≡ r.run) is.run.run r (λ e. refl) (λ e. refl)))
    ∙ current-turned is.run.run (run_numbered number s.runs))
one_event number s (event.Finish run end) legal earlier =
    let e = event.Finish run end in
    let is = framed s e legal in
    by_leaving (IsCommand e) number run is.run s (after s e) is.is_running (ap (λ (f : Frame). f.runs) is.frame_is)
one_event number s (event.TimedOut run) legal earlier =
    let e = event.TimedOut run in
    let is = framed s e legal in
    by_leaving (IsCommand e) number run is.run s (after s e) is.is_running (ap (λ (f : Frame). f.runs) is.frame_is)
one_event number s (event.Late run) legal earlier =
    let e = event.Late run in
    let is = framed s e legal in
    by_leaving (IsCommand e) number run is.run s (after s e) is.is_running (ap (λ (f : Frame). f.runs) is.frame_is)

-- ---- through a log

module _ (number : ℕ) (grows : (s : State) (e : Event) → Valid s → Legal s e → s.next_run ≤ (after s e).next_run) where
  later : (s : State) (e : Event) → Valid s → Legal s e → number < s.next_run → number < (after s e).next_run
  later s e valid legal earlier = let more = grows s e valid legal in omega (arith, more, earlier)

  -- a run that is away stays so
  away_stays : (s : State) (log : List Event) (last : State) → Valid s → Replay s log last → number < s.next_run → current_in number s ≡ None
      → current_in number last ≡ None
  away_stays s [] last valid replays earlier none = ap (current_in number) replays ∙ none
  away_stays s (e ∷ log) last valid replays earlier none =
      away_stays (after s e) log last (Valid-after s e valid replays.0) replays.1 (later s e valid replays.0 earlier)
      (subst (λ before. MayBecome (IsCommand e) before (current_in number (after s e))) none (one_event number s e replays.0 earlier))

  -- a run that is stopped is never current again
  stopped_stays : (s : State) (log : List Event) (last : State) → Valid s → Replay s log last → number < s.next_run → current_in number s ≡ Some false
      → current_in number last ≡ Some true → ⊥
  stopped_stays s [] last valid replays earlier stopped current =
      let clash : Some false ≡ Some true = sym stopped ∙ ap (current_in number) (sym replays) ∙ current in absurd (cc)
  stopped_stays s (e ∷ log) last valid replays earlier stopped current =
      let then = Valid-after s e valid replays.0 in
      let below = later s e valid replays.0 earlier in
      elim (subst (λ before. MayBecome (IsCommand e) before (current_in number (after s e))) stopped (one_event number s e replays.0 earlier)) [
        | inl still ↦ stopped_stays (after s e) log last then replays.1 below still current
        | inr none ↦
            let clash : None ≡ Some true = sym (away_stays (after s e) log last then replays.1 below none) ∙ current in absurd (cc)
      ]

  -- one that was current and isn't any more was stopped by a line
  pub stopped_by_line : (s : State) (log : List Event) (last : State) → Valid s → Replay s log last → number < s.next_run → current_in number s ≡ Some true
      → current_in number last ≡ Some false → IsStoppedIn number s log
  stopped_by_line s [] last valid replays earlier current stopped =
      let clash : Some true ≡ Some false = sym current ∙ ap (current_in number) (sym replays) ∙ stopped in absurd (cc)
  stopped_by_line s (e ∷ log) last valid replays earlier current stopped =
      let then = Valid-after s e valid replays.0 in
      let below = later s e valid replays.0 earlier in
      elim (subst (λ before. MayBecome (IsCommand e) before (current_in number (after s e))) current (one_event number s e replays.0 earlier)) [
        | inl still ↦ inr (stopped_by_line (after s e) log last then replays.1 below still stopped)
        | inr (inl none) ↦
            let clash : None ≡ Some false = sym (away_stays (after s e) log last then replays.1 below none) ∙ stopped in absurd (cc)
        | inr (inr now) ↦ inl (record { line = now.0; was = current; now = now.1 })
      ]

  -- and one that a line stopped isn't current
  pub not_current_then : (s : State) (log : List Event) (last : State) → Valid s → Replay s log last → number < s.next_run → IsStoppedIn number s log
      → current_in number last ≡ Some true → ⊥
  not_current_then s [] last valid replays earlier stopped current = absurd stopped
  not_current_then s (e ∷ log) last valid replays earlier (inl stops) current =
      stopped_stays (after s e) log last (Valid-after s e valid replays.0) replays.1 (later s e valid replays.0 earlier) stops.now current
  not_current_then s (e ∷ log) last valid replays earlier (inr rest) current =
      not_current_then (after s e) log last (Valid-after s e valid replays.0) replays.1 (later s e valid replays.0 earlier) rest current

-- ---- reports

-- a report that counts is of a current run
pub current-end : (number : ℕ) (s : State) (e : Event) → Legal s e → is_end_of number e ≡ true → current_in number s ≡ Some true
current-end number s (event.Finish run end) legal is =
    let same : run ≡ number = eqb-true run number is in
    ap (option_map (λ run. run.current)) (subst (λ n. run_numbered n s.runs ≡ Some legal.run) same legal.is_running) ∙ ap Some legal.is_current
current-end number s (event.TimedOut run) legal is =
    let same : run ≡ number = eqb-true run number is in
    let report = legal.report in
    ap (option_map (λ run. run.current)) (subst (λ n. run_numbered n s.runs ≡ Some report.run) same report.is_running) ∙ ap Some report.is_current
current-end number s _ legal is = absurd (false≢true is)

-- and one that comes too late of a stopped one
pub stopped-late : (number : ℕ) (s : State) → Legal s (event.Late number) → current_in number s ≡ Some false
stopped-late number s legal = ap (option_map (λ run. run.current)) legal.is_running ∙ ap Some legal.is_stopped
