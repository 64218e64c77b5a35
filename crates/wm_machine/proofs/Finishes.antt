-- The end of a run, by its worker's report or for want of a turn, and the return of one that was stopped.
use Rattle.std.proofs.Common.{◌≡◌, ℕ, ◌≤◌, true, false, eqb, List, [], Option, Some, ◌∙◌, ap, arith, inl, inr}
use Rattle.std.proofs.lemmas.Bool.{and_from, cases_Bool}
use Rattle.wm_collections.proofs.Lists.{find-stored}
use Rattle.wm_machine.proofs.EndedRuns.{reached-ended, running_of, Valid-returned, with_run_over}
use Rattle.wm_machine.proofs.Endings.{end_in, HasEnded, HasEnded-end, works_after_end-map}
use Rattle.wm_machine.proofs.Owed.{IsKept}
use Rattle.wm_machine.proofs.Runnings.{found_valid}
use Rattle.wm_machine.proofs.Waitings.{left_among-changed, left_among-one_more, left_by_runs-away, left_by_runs-ended}
use Rattle.wm_machine.specs.Diaries.{given_lines}
use Rattle.wm_machine.specs.Ends.{end_of, given_by, period_of, returned_of, with_return}
use Rattle.wm_machine.specs.Frame.{frame_of, frame_to, IsEndedIn, IsReturnedIn}
use Rattle.wm_machine.specs.Valid.{Valid}
use Rattle.wm_machine.specs.Role as role
use Rattle.wm_machine.specs.Role.{Reported, SomeMore, This}
use Rattle.wm_machine.specs.Runs.{other_runs, run_numbered, with_out}
use Rattle.wm_machine.specs.Step.{after, IsEnd, IsLate, IsTimeout}
use Rattle.wm_machine.specs.Waiting.{left_to_drain}
use Rattle.wm_machine.specs.Types.{End, Record, Run, State}
use Rattle.wm_machine.specs.declared.event.End.TheVariants.{Retry}
use Rattle.wm_machine.specs.declared.event.Event.TheVariants as event
use Rattle.wm_worker.proofs.Giving.{gives_data}
use Rattle.wm_worker.specs.Answers.{GivesData}

-- ---- the state after it, and its frame

-- the end of a run changes each record by itself
end-in : (s : State) (number : ℕ) (run : Run) (end : End) → run_numbered number s.runs ≡ Some run
    → end_of s (run_numbered number s.runs) end ≡ with_run_over s run (end_in s run end)
end-in s number run end found =
    ap (λ found. end_of s found end) found ∙ ap (λ (works : List Record). record s {
      works = works;
      runs = other_runs run.run s.runs;
      instances = with_out false run.instance s.instances;
    }) (works_after_end-map run.renewed s.now run.seq (period_of run.seq s.works) end s.works)

pub after_finish : (s : State) (number : ℕ) (end : End) → (legal : IsEnd s number end)
    → after s (event.Finish number end) ≡ with_run_over s legal.run (end_in s legal.run end)
after_finish s number end legal = end-in s number legal.run end legal.is_running

pub after_timed_out : (s : State) (number : ℕ) → (legal : IsTimeout s number)
    → after s (event.TimedOut number) ≡ with_run_over s legal.report.run (end_in s legal.report.run Retry)
after_timed_out s number legal = end-in s number legal.report.run Retry legal.report.is_running

-- the end of a run takes it away, its instance is idle, and its worker writes what it gave
pub finish-framed : (s : State) (number : ℕ) (end : End) → IsEnd s number end → IsEndedIn number (This (given_by end)) s (frame_of s (event.Finish number end))
finish-framed s number end legal = record {
  run = legal.run;
  is_running = legal.is_running;
  frame_is = ap (λ (found : Option Run). frame_to (end_of s found end) [] (λ worker. given_lines worker found (This (given_by end)))) legal.is_running;
}

pub timed_out-framed : (s : State) (number : ℕ) → IsTimeout s number → IsEndedIn number SomeMore s (frame_of s (event.TimedOut number))
timed_out-framed s number legal = record {
  run = legal.report.run;
  is_running = legal.report.is_running;
  frame_is = ap (λ (found : Option Run). frame_to (end_of s found Retry) [] (λ worker. given_lines worker found SomeMore)) legal.report.is_running;
}

-- ---- what it keeps

-- no more works are left to a drain: the work of a renewed run may be, but then that run is away
end-left : (s : State) (number : ℕ) (run : Run) (change : Record → Record) → Valid s → HasEnded s run change → run_numbered number s.runs ≡ Some run
    → run.current ≡ true → left_to_drain (with_run_over s run change) ≤ left_to_drain s
end-left s number run change reached has found current =
    elim (cases_Bool run.renewed) [
      | inl e ↦
          let works = left_among-one_more s.now run.seq s.works change reached.works.in_order has.others in
          let runs = left_by_runs-ended run s.runs (find-stored (λ r. eqb r.run number) s.runs run found) (and_from _ _ current e) in
          omega (arith, works, runs)
      | inr e ↦
          let works = left_among-changed s.now s.works change has.ending.is_change (has.old e) in
          let runs = left_by_runs-away run.run s.runs in
          omega (arith, works, runs)
    ]

end-kept : (s : State) (number : ℕ) (told : Reported) (run : Run) (end : End) → Valid s → run_numbered number s.runs ≡ Some run → run.current ≡ true
    → GivesData (given_by end) → IsKept (role.Ends number told) s (with_run_over s run (end_in s run end))
end-kept s number told run end reached found current gave =
    let change = end_in s run end in
    let has = HasEnded-end s run end reached (running_of s number run reached found current) gave in
    record { reached = reached-ended s number run change reached has.ending found current; left = end-left s number run change reached has found current }

pub finish-kept : (s : State) (number : ℕ) (end : End) → Valid s → IsEnd s number end
    → IsKept (role.Ends number (This (given_by end))) s (after s (event.Finish number end))
finish-kept s number end reached legal =
    let run = legal.run in
    let taken = (found_valid s number run reached legal.is_running).input in
    rw (after_finish s number end legal) (end-kept s number (This (given_by end)) run end reached legal.is_running legal.is_current
    (gives_data run.kind run.input run.attempt run.turn (given_by end) taken legal.may_give))

pub timed_out-kept : (s : State) (number : ℕ) → Valid s → IsTimeout s number → IsKept (role.Ends number SomeMore) s (after s (event.TimedOut number))
timed_out-kept s number reached legal =
    rw (after_timed_out s number legal) (end-kept s number SomeMore legal.report.run Retry reached legal.report.is_running legal.report.is_current tt)

-- ---- a run that was stopped

-- it is away, and its worker writes nothing
pub late-framed : (s : State) (number : ℕ) → IsLate s number → IsReturnedIn number s (frame_of s (event.Late number))
late-framed s number legal = record {
  run = legal.run;
  is_running = legal.is_running;
  is_stopped = legal.is_stopped;
  frame_is = ap (λ (found : Option Run). frame_to (returned_of s found) [] (λ worker. [])) legal.is_running;
}

pub late-kept : (s : State) (number : ℕ) → Valid s → IsLate s number → IsKept (role.Returns number) s (after s (event.Late number))
late-kept s number valid legal =
    let gone : after s (event.Late number) ≡ with_return s legal.run = ap (returned_of s) legal.is_running in
    let runs = left_by_runs-away legal.run.run s.runs in
    let left : left_to_drain (with_return s legal.run) ≤ left_to_drain s = omega (arith, runs) in
    rw gone record { reached = Valid-returned s number legal.run valid legal.is_running legal.is_stopped; left = left }
