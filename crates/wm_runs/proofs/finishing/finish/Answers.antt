use Rattle.std.proofs.Common.{◌≡◌, ℕ, ◌≤◌, true, false, ltb, List, Option, Some, None, arith, slice_get, refl, sym, ◌∙◌, ap, subst, inl, inr}
use Rattle.std.specs.List.{AllByRecursion}
use Rattle.std.proofs.lemmas.Bool.{and_from, cases_Bool, false≢true, ltb-false, true≢false}
use Rattle.std.proofs.lemmas.Result.{IfOk-weaker}
use Rattle.wm_data.specs.declared.data.DataEntry.{DataEntry}
use Rattle.wm_machine.specs.declared.event.End.{End}
use Rattle.wm_machine.specs.declared.record.Record.{Record}
use Rattle.wm_machine.specs.declared.state.Run.{Run}
use Rattle.wm_machine.specs.declared.state.State.{State}
use Rattle.wm_machine.proofs.Changes.{OfNumber}
use Rattle.wm_machine.proofs.Endings.{end_by, end_in, same_period}
use Rattle.wm_machine.proofs.Finishes.{after_finish, after_timed_out}
use Rattle.wm_machine.proofs.Runnings.{found_valid}
use Rattle.wm_machine.specs.Closed.{is_open}
use Rattle.wm_machine.specs.Ends.{ended_as, given_by, period_of, retried}
use Rattle.wm_machine.specs.Role.{SomeMore, This}
use Rattle.wm_machine.specs.Role as role
use Rattle.wm_machine.specs.Runs.{other_runs, run_numbered, with_out}
use Rattle.wm_machine.specs.Step.{IsEnd, IsReport, IsTimeout}
use Rattle.wm_machine.specs.Valid.{IsWorkOf, Valid}
use Rattle.wm_machine.specs.declared.event.End.TheVariants.{Retry}
use Rattle.wm_machine.specs.declared.event.Event.TheVariants as event
use Rattle.wm_runs.proofs.Freeing.{end-freeing, retry-freeing}
use Rattle.wm_runs.proofs.Reaching.{change-keeps, end-agree, ended-same, IsSameWork}
use Rattle.wm_runs.proofs.Reporting.{counted, may-give}
use Rattle.wm_runs.proofs.RunLookups.{found-numbered}
use Rattle.wm_runs.specs.Builds.{over, IsFinish}
use Rattle.wm_runs.specs.Reached.{change_by, end_reach, replaced_by, replaced_by_end}
use Rattle.wm_runs.specs.Reports.{goes_on, wants_more, CountsIn, IsFoundRun}
use Rattle.wm_runs.specs.declared.reach.Reach.{Reach}
use Rattle.wm_runs.specs.declared.reach.Reach.TheVariants as reach
use Rattle.wm_steps.proofs.Lookups.{All-at, stored-at}
use Rattle.wm_steps.proofs.ManyRows.{after_change, KeepNodes, replacing_all-step}
use Rattle.wm_steps.proofs.Nodes.{unmarked-open}
use Rattle.wm_changes.specs.Nodes.{nodes_of}
use Rattle.wm_changes.specs.StepChanges.{replacing_all}
use Rattle.wm_worker.specs.Answers.{given_of, MayGive}
use Rattle.wm_worker.specs.Told.{IsAllowed, Report}
use Rattle.wm_worker.specs.declared.answer.Answer.{Answer}
use Rattle.wm_worker.specs.declared.answer.Given.{Given}
use Rattle.wm_worker.specs.declared.answer.Given.TheVariants.{Failure, More, Success}
use Rattle.wm_worker.specs.declared.answer.Given.TheVariants as given
use Rattle.wm_runs.proofs.finishing.finish.Goals as goal

-- a run that is found, with its work and the report that counts for it
record IsReported (s : State) (number i : ℕ) (told : Report) (run : Run) (work : Record) : Type 0 where
  counts : CountsIn s number told
  allowed : IsAllowed told
  is_found : IsFoundRun s number i run work

-- what was told is a report of the machine
may-report : (s : State) (number i : ℕ) (told : Report) (run : Run) (work : Record) (gave : Given) → IsReported s number i told run work
    → given_of told.answer ≡ Some gave → MayGive run.kind run.input run.attempt run.turn gave
may-report s number i told run work gave is told_is =
    may-give run told gave (counted s number told run is.counts is.is_found.found) is.allowed told_is

-- the end of a run changes just what is touched: its work and those that it reaches
ends-agree : (s : State) (i : ℕ) (run : Run) (work : Record) (end : End) → Valid s → slice_get s.works i ≡ Some work → IsWorkOf run work
    → AllByRecursion (λ w. after_change (change_by (ended_as work.request.period run.renewed s.now end work)
    (end_reach work.request.period s.now work.seq end (nodes_of s.works))) w ≡ end_in s run end w) s.works
ends-agree s i run work end valid at of =
    let period : work.request.period ≡ period_of run.seq s.works =
    All-at (OfNumber run.seq (λ w. w.request.period ≡ period_of run.seq s.works)) s.works i work (same_period run.seq s.works valid.works.in_order) at of.seq in
    let agree =
    end-agree work.request.period run.renewed s.now end work s.works valid.works.in_order valid.works.sound (stored-at s.works i work at) (ap is_open of.running) in
    let touch = change_by (ended_as work.request.period run.renewed s.now end work) (end_reach work.request.period s.now work.seq end (nodes_of s.works)) in
    subst (λ number. AllByRecursion (λ w. after_change touch w ≡ end_by run.renewed s.now number (period_of run.seq s.works) end s.works w) s.works) of.seq
    (subst (λ kind. AllByRecursion (λ w. after_change touch w ≡ end_by run.renewed s.now work.seq kind end s.works w) s.works) period agree)

-- each record keeps its node where a run of a work ends
run-keeps : (s : State) (i : ℕ) (run : Run) (work itself : Record) (to : Reach) → Valid s → slice_get s.works i ≡ Some work → IsWorkOf run work
    → IsSameWork work itself → KeepNodes (change_by itself to) s.works
run-keeps s i run work itself to reached at of same =
    change-keeps itself work to s.works reached.works.in_order (stored-at s.works i work at) (ap is_open of.running) same

-- the run is over by this end
finish-step : (s : State) (number i : ℕ) (told : Report) (run : Run) (work : Record) (end : End) → IsReported s number i told run work
    → given_of told.answer ≡ Some (given_by end)
    → IsFinish s number told (replacing_all (replaced_by_end s run.renewed work end) (over run) (event.Finish run.run end))
finish-step s number i told run work end is told_is =
    let valid = is.is_found.valid in
    let named = found-numbered number s.runs run is.is_found.found in
    let may = may-report s number i told run work (given_by end) is told_is in
    let legal : IsEnd s run.run end = record {
      run = run;
      is_running = ap (λ n. run_numbered n s.runs) named ∙ is.is_found.found;
      is_current = is.is_found.current;
      may_give = may;
    } in
    let gone : State = record s { runs = other_runs run.run s.runs; instances = with_out false run.instance s.instances } in
    let itself = ended_as work.request.period run.renewed s.now end work in
    let to = end_reach work.request.period s.now work.seq end (nodes_of s.works) in
    let same = ended-same work.request.period run.renewed s.now end work in
    let keeps = run-keeps s i run work itself to is.is_found.valid is.is_found.at is.is_found.of same in
    let freeing =
    end-freeing s run.renewed work work.request.period end (over run) (event.Finish run.run end) is.is_found.valid (stored-at s.works i work is.is_found.at) keeps in
    record {
      reported = This (given_by end);
      gave = given_by end;
      told_is = told_is;
      has_given = refl;
      ends = ap (λ n. role.Ends n (This (given_by end))) named;
      step =
          replacing_all-step s gone (change_by itself to) (end_in s run end) (over run) (event.Finish run.run end) valid legal keeps
          (ends-agree s i run work end is.is_found.valid is.is_found.at is.is_found.of) refl
          (after_finish s run.run end legal) freeing;
    }

-- a report that asks for one more turn where the run doesn't go on is in the last one
last-turn : (told : Report) (progress : Option (List DataEntry)) → goes_on told ≡ false → given_of told.answer ≡ Some (More progress) → 999 ≤ told.k
last-turn told progress stays told_is = elim (cases_Bool (ltb told.k 999)) [
  | inl less ↦ absurd (true≢false (sym (and_from (ltb told.k 999) (wants_more (given_of told.answer)) less (ap wants_more told_is)) ∙ stays))
  | inr not_less ↦ ltb-false told.k 999 not_less
]

-- the run is over for want of a turn
timeout-step : (s : State) (number i : ℕ) (told : Report) (run : Run) (work : Record) (progress : Option (List DataEntry))
    → IsReported s number i told run work → goes_on told ≡ false → given_of told.answer ≡ Some (More progress)
    → IsFinish s number told (replacing_all (replaced_by (retried run.renewed s.now work) reach.Stays s.works) (over run) (event.TimedOut run.run))
timeout-step s number i told run work progress is stays told_is =
    let valid = is.is_found.valid in
    let named = found-numbered number s.runs run is.is_found.found in
    let turn : told.k ≡ run.turn = (counted s number told run is.counts is.is_found.found).about.same_turn in
    let most : run.turn ≤ 999 = (found_valid s number run valid is.is_found.found).turn in
    let last = last-turn told progress stays told_is in
    let report : IsReport s run.run (More progress) = record {
      run = run;
      is_running = ap (λ n. run_numbered n s.runs) named ∙ is.is_found.found;
      is_current = is.is_found.current;
      may_give = may-report s number i told run work (More progress) is told_is;
    } in
    let legal : IsTimeout s run.run = record { progress = progress; report = report; none_left = omega arith } in
    let gone : State = record s { runs = other_runs run.run s.runs; instances = with_out false run.instance s.instances } in
    let touch = change_by (retried run.renewed s.now work) reach.Stays in
    let keeps = run-keeps s i run work (retried run.renewed s.now work) reach.Stays is.is_found.valid is.is_found.at is.is_found.of
    (record { seq = refl; id = refl; name = refl; prior = refl }) in
    record {
      reported = SomeMore;
      gave = More progress;
      told_is = told_is;
      has_given = (progress, refl);
      ends = ap (λ n. role.Ends n SomeMore) named;
      step =
          replacing_all-step s gone touch (end_in s run Retry) (over run) (event.TimedOut run.run) valid legal keeps
          (ends-agree s i run work Retry is.is_found.valid is.is_found.at is.is_found.of) refl
          (after_timed_out s run.run legal) (retry-freeing s run.renewed work (over run) (event.TimedOut run.run) keeps);
    }

-- the wish for one more turn comes with what is told of the progress
asked-more : (gave : Option Given) → wants_more gave ≡ true → (progress : Option (List DataEntry)) × (gave ≡ Some (More progress))
asked-more None asks = absurd (false≢true asks)
asked-more (Some (More progress)) asks = (progress, refl)
asked-more (Some (Success output)) asks = absurd (false≢true asks)
asked-more (Some (Failure output)) asks = absurd (false≢true asks)
asked-more (Some given.Retry) asks = absurd (false≢true asks)

pub finish_by-requires : goal.finish_by-requires
finish_by-requires c =
    let s = c.args.view.now in
    let found = c.found_run.ensures in
    let work = c.found_run.result.work.now in
    unmarked-open work s.works found.valid.works.in_order (stored-at s.works c.found_run.result.index work found.at) (ap is_open found.of.running)

pub returns-in-Some : goal.returns-in-Some
returns-in-Some c =
    let s = c.args.view.now in
    let number = c.args.number in
    let told = c.args.told.now in
    let run = c.found_run.result.run.now in
    let index = c.found_run.result.index in
    let work = c.found_run.result.work.now in
    let end = c.in-Some.end in
    let is : IsReported s number index told run work = record {
      counts = c.requires.counts;
      allowed = c.answer.ensures.allowed;
      is_found = c.found_run.ensures;
    } in
    let said = rw c.in-Some.is at c.in_ok-end.ensures in
    let told_is : given_of told.answer ≡ Some (given_by end) = ap given_of (sym c.answer.ensures.answer) ∙ said in
    let change = replacing_all (replaced_by_end s run.renewed work end) (over run) (event.Finish run.run end) in
    IfOk-weaker c.finish_by.result (λ e. e ≡ change) (IsFinish s number told) (λ e same.
    subst (IsFinish s number told) (sym same) (finish-step s number index told run work end is told_is)) c.finish_by.ensures

pub returns-in-None : goal.returns-in-None
returns-in-None c =
    let s = c.args.view.now in
    let number = c.args.number in
    let told = c.args.told.now in
    let run = c.found_run.result.run.now in
    let index = c.found_run.result.index in
    let work = c.found_run.result.work.now in
    let is : IsReported s number index told run work = record {
      counts = c.requires.counts;
      allowed = c.answer.ensures.allowed;
      is_found = c.found_run.ensures;
    } in
    let said = rw c.in-None.is at c.in_ok-end.ensures in
    let more = asked-more (given_of told.answer) (ap (λ (a : Answer). wants_more (given_of a)) (sym c.answer.ensures.answer) ∙ said) in
    let change = replacing_all (replaced_by (retried run.renewed s.now work) reach.Stays s.works) (over run) (event.TimedOut run.run) in
    IfOk-weaker c.time_out.result (λ e. e ≡ change) (IsFinish s number told) (λ e same.
    subst (IsFinish s number told) (sym same) (timeout-step s number index told run work more.0 is c.requires.over more.1)) c.time_out.ensures
