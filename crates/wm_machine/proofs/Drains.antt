-- From every valid state with at most one unreturned run a serial run goes on to its end.
use Rattle.std.proofs.Common.{◌≡◌, ℕ, ◌+◌, ◌-◌, ◌<◌, ◌≤◌, zero, suc, Bool, true, false, cond, List, [], ◌∷◌, ◌++◌, length, map, Option, Some, None, Result, Ok, Err, refl, sym, ◌∙◌, ap, subst, arith, append_assoc}
use Rattle.std.specs.List.{AllByRecursion}
use Rattle.std.proofs.lemmas.Bool.{eq-eqb}
use Rattle.wm_machine.specs.Types.{Cause, Command, DataEntry, End, Event, Instance, Record, Run, State}
use Rattle.wm_machine.proofs.Commands.{answered, reply_where_asked}
use Rattle.wm_machine.proofs.Firsts.{first_of-no_worker, start_refusal-no_worker}
use Rattle.wm_machine.proofs.Inputs.{start_refusal-some}
use Rattle.wm_machine.proofs.Runnings.{found_valid}
use Rattle.wm_machine.proofs.Roles.{closed, Closes, continued, Continues, opened, Opens}
use Rattle.wm_machine.proofs.Steps.{framed, Valid-after, kept}
use Rattle.wm_machine.specs.Outcome.{IsAskable}
use Rattle.wm_machine.specs.Ends.{given_by}
use Rattle.wm_machine.specs.First.{first_of, idle_instance}
use Rattle.wm_machine.specs.Frame.{Frame, frame_of}
use Rattle.wm_machine.specs.Input.{input_of}
use Rattle.wm_machine.specs.Log.{command_in, commands_of}
use Rattle.wm_machine.specs.Valid.{Valid}
use Rattle.wm_machine.specs.Quiet.{IsQuiet}
use Rattle.wm_machine.specs.Replay.{Replay}
use Rattle.wm_machine.specs.Role.{Role}
use Rattle.wm_machine.specs.Runs.{run_numbered, start_refusal}
use Rattle.wm_machine.specs.Serial.{AreInTurn, IsInTurn}
use Rattle.wm_machine.specs.Step.{after, IsReport, Legal, role_of}
use Rattle.wm_machine.specs.Turns.{turned}
use Rattle.wm_machine.specs.Waiting.{left_to_drain}
use Rattle.wm_machine.specs.declared.event.Cause.TheVariants.{NoWorker}
use Rattle.wm_machine.specs.declared.event.End.TheVariants.{Success, Failure, Retry}
use Rattle.wm_machine.specs.declared.event.Event.TheVariants as event
use Rattle.wm_merge.specs.declared.fault.MergeFault.{MergeFault}
use Rattle.wm_worker.proofs.Giving.{has_given}
use Rattle.wm_worker.specs.Answers.{MayGive}
use Rattle.wm_worker.specs.declared.answer.Given.{Given}
use Rattle.wm_worker.specs.declared.answer.Given.TheVariants as given

-- ---- two logs, one after the other

pub Replay-append : (first : State) (log : List Event) (between : State) (more : List Event) (last : State) → Replay first log between
    → Replay between more last → Replay first (log ++ more) last
Replay-append first [] between more last replays goes = subst (λ s. Replay s more last) replays goes
Replay-append first (e ∷ log) between more last replays goes = (replays.0, Replay-append (after first e) log between more last replays.1 goes)

pub commands_of-append : (log more : List Event) → commands_of (log ++ more) ≡ commands_of log ++ commands_of more
commands_of-append [] more = refl
commands_of-append (e ∷ log) more =
    ap (λ rest. command_in e ++ rest) (commands_of-append log more) ∙ sym (append_assoc (command_in e) (commands_of log) (commands_of more))

pub AreInTurn-append : (first : State) (log : List Event) (last : State) (more : List Event) → AreInTurn first log → Replay first log last → AreInTurn last more
    → AreInTurn first (log ++ more)
AreInTurn-append first [] last more turns replays goes = subst (λ s. AreInTurn s more) replays goes
AreInTurn-append first (e ∷ log) last more turns replays goes = (turns.0, AreInTurn-append (after first e) log last more turns.1 replays.1 goes)

-- ---- a serial run from a state on

-- a log with these commands goes on in turn from a state, until there is nothing left to do
pub record GoesOn (lines : List Command) (s : State) : Type 0 where
  pub log : List Event
  pub last : State
  pub replay : Replay s log last
  pub commands : commands_of log ≡ lines
  pub in_turn : AreInTurn s log
  pub quiet : IsQuiet last
  pub reached : Valid last

-- there is nothing left to do
GoesOn-nothing : (s : State) → Valid s → IsQuiet s → GoesOn [] s
GoesOn-nothing s reached quiet = record {
  log = [];
  last = s;
  replay = refl;
  commands = refl;
  in_turn = tt;
  quiet = quiet;
  reached = reached;
}

-- one event in front
GoesOn-more : (s : State) (e : Event) (lines : List Command) → Legal s e → IsInTurn s e → GoesOn lines (after s e) → GoesOn (command_in e ++ lines) s
GoesOn-more s e lines legal turn next = record {
  log = e ∷ next.log;
  last = next.last;
  replay = (legal, next.replay);
  commands = ap (λ rest. command_in e ++ rest) next.commands;
  in_turn = (turn, next.in_turn);
  quiet = next.quiet;
  reached = next.reached;
}

-- where all without a command is done first
GoesOn-then : (s : State) (lines : List Command) (done : GoesOn [] s) → GoesOn lines done.last → GoesOn lines s
GoesOn-then s lines done next = record {
  log = done.log ++ next.log;
  last = next.last;
  replay = Replay-append s done.log done.last next.log next.last done.replay next.replay;
  commands = commands_of-append done.log next.log ∙ ap (λ rest. rest ++ commands_of next.log) done.commands ∙ next.commands;
  in_turn = AreInTurn-append s done.log done.last next.log done.in_turn done.replay next.in_turn;
  quiet = next.quiet;
  reached = next.reached;
}

-- one event in front that is no line
GoesOn-silent : (s : State) (e : Event) → Legal s e → IsInTurn s e → command_in e ≡ [] → GoesOn [] (after s e) → GoesOn [] s
GoesOn-silent s e legal turn silent next = subst (λ commands. GoesOn (commands ++ []) s) silent (GoesOn-more s e [] legal turn next)

-- ---- what comes next

-- an event of such a role may happen
record HasNext (P : Role → Type 0) (s : State) : Type 0 where
  e : Event
  legal : Legal s e
  role_is : P (role_of e)

fails : (s : State) (work : Record) (cause : Cause) → first_of s ≡ Some work → start_refusal s work ≡ Some cause → HasNext Opens s
fails s work cause first refused = record {
  e = event.StartFailed work.seq cause;
  legal = record { work = work; is_first = first; refused = refused; seq_is = refl };
  role_is = tt;
}

-- the first work starts, where its class has an idle instance and it has an input, and fails otherwise
start_or_fail : (s : State) (work : Record) (found : Option Instance) (input : Result (List DataEntry) MergeFault) → first_of s ≡ Some work
    → idle_instance s.instances work.request.class ≡ found → input_of s work ≡ input → HasNext Opens s
start_or_fail s work None input first none taken = fails s work NoWorker first (start_refusal-no_worker s work (first_of-no_worker s work first none))
start_or_fail s work (Some idle) (Ok input) first found taken = record {
  e = event.Start s.next_run work.seq idle.number input;
  legal = record {
    work = work;
    idle = idle;
    is_first = first;
    is_idle = found;
    run_is = refl;
    seq_is = refl;
    instance_is = refl;
    input_is = taken;
  };
  role_is = tt;
}
start_or_fail s work (Some idle) (Err fault) first found taken = let refused = start_refusal-some s work fault taken in fails s work refused.0 first refused.1

-- the one run is found by its number
found_one : (s : State) (run : Run) → s.runs ≡ run ∷ [] → run_numbered run.run s.runs ≡ Some run
found_one s run one = ap (run_numbered run.run) one ∙ ap (λ b. cond b (Some run) None) (eq-eqb run.run run.run refl)

-- its worker may give this
reports : (s : State) (run : Run) (gave : Given) → run.current ≡ true → s.runs ≡ run ∷ [] → MayGive run.kind run.input run.attempt run.turn gave
    → IsReport s run.run gave
reports s run gave current one may = record { run = run; is_running = found_one s run one; is_current = current; may_give = may }

finishes : (s : State) (run : Run) (end : End) → run.current ≡ true → s.runs ≡ run ∷ [] → MayGive run.kind run.input run.attempt run.turn (given_by end)
    → HasNext Closes s
finishes s run end current one may = record { e = event.Finish run.run end; legal = reports s run (given_by end) current one may; role_is = tt }

times_out : (s : State) (run : Run) (progress : Option (List DataEntry)) → run.current ≡ true → s.runs ≡ run ∷ []
    → MayGive run.kind run.input run.attempt run.turn (given.More progress) → run.turn ≡ 999 → HasNext Closes s
unfolding reports
times_out s run progress current one may last = record {
  e = event.TimedOut run.run;
  legal = record { progress = progress; report = reports s run (given.More progress) current one may; none_left = last };
  role_is = tt;
}

goes_to_next : (s : State) (run : Run) (progress : Option (List DataEntry)) → run.current ≡ true → s.runs ≡ run ∷ []
    → MayGive run.kind run.input run.attempt run.turn (given.More progress) → run.turn < 999 → HasNext Continues s
unfolding reports
goes_to_next s run progress current one may early = record {
  e = event.Turn run.run progress;
  legal = record { report = reports s run (given.More progress) current one may; turns_left = early };
  role_is = tt;
}

-- it was stopped, and is away
returns : (s : State) (run : Run) → run.current ≡ false → s.runs ≡ run ∷ [] → HasNext Closes s
returns s run stopped one = record {
  e = event.Late run.run;
  legal = record { run = run; is_running = found_one s run one; is_stopped = stopped };
  role_is = tt;
}

-- ---- a drain

-- how a drain goes on in a state where fewer works are left to it than this
abbrev Recur : ℕ → Type 0
Recur n = (t : State) → Valid t → length t.runs ≤ 1 → left_to_drain t < n → GoesOn [] t

-- no run is unreturned: the first work starts, or can't
from_rest : (s : State) (first : Option Record) → first_of s ≡ first → Recur (left_to_drain s) → Valid s → s.runs ≡ [] → GoesOn [] s
from_rest s None none recur reached no_run = GoesOn-nothing s reached (record { nothing_startable = none; no_run = no_run })
from_rest s (Some work) first recur reached no_run =
    let next = start_or_fail s work (idle_instance s.instances work.request.class) (input_of s work) first refl refl in
    let e = next.e in
    let keeps = kept s e reached next.legal in
    let is = opened (role_of e) s (frame_of s e) (left_to_drain s) (left_to_drain (after s e)) next.role_is (framed s e next.legal) keeps.left no_run in
    GoesOn-silent s e next.legal is.turn is.silent (recur (after s e) keeps.reached is.few is.fewer)

-- one run is unreturned and is over: all else follows
from_end : (s : State) (run : Run) → HasNext Closes s → Recur (left_to_drain s) → Valid s → s.runs ≡ run ∷ [] → GoesOn [] s
from_end s run next recur reached one =
    let e = next.e in
    let t = after s e in
    let keeps = kept s e reached next.legal in
    let is = closed (role_of e) s (frame_of s e) (left_to_drain s) (left_to_drain t) run next.role_is (framed s e next.legal) keeps.left one in
    let no_more : left_to_drain t ≤ left_to_drain s = is.no_more in
    GoesOn-silent s e next.legal is.turn is.silent (from_rest t (first_of t) refl (λ u v few fewer. recur u v few (omega arith)) keeps.reached is.none)

-- one run is unreturned and current, with so many turns left, and its worker gives this: it is over, or at its next turn gives again
from_gave : (turns : ℕ) (s : State) (run : Run) (gave : Given) → MayGive run.kind run.input run.attempt run.turn gave → run.turn + turns ≡ 999
    → Recur (left_to_drain s) → Valid s → run.current ≡ true → s.runs ≡ run ∷ [] → GoesOn [] s
from_gave turns s run (given.Success output) may so recur reached current one =
    from_end s run (finishes s run (Success output) current one may) recur reached one
from_gave turns s run (given.Failure output) may so recur reached current one =
    from_end s run (finishes s run (Failure output) current one may) recur reached one
from_gave turns s run given.Retry may so recur reached current one = from_end s run (finishes s run Retry current one may) recur reached one
from_gave zero s run (given.More progress) may so recur reached current one =
    from_end s run (times_out s run progress current one may (omega (arith, so))) recur reached one
from_gave (suc turns) s run (given.More progress) may so recur reached current one =
    let next = goes_to_next s run progress current one may (omega (arith, so)) in
    let e = next.e in
    let t = after s e in
    let keeps = kept s e reached next.legal in
    let is = continued (role_of e) s (frame_of s e) (left_to_drain s) (left_to_drain t) run next.role_is (framed s e next.legal) keeps.left one in
    let no_more : left_to_drain t ≤ left_to_drain s = is.no_more in
    let then = has_given run.kind run.input run.attempt (run.turn + 1) in
    GoesOn-silent s e next.legal is.turn is.silent
    (from_gave turns t (turned run) then.gave then.may_give (omega (arith, so)) (λ u v few fewer. recur u v few (omega arith)) keeps.reached current is.one)

-- one run is unreturned: it comes to its end, or was stopped and is away
from_run : (s : State) (run : Run) (current : Bool) → run.current ≡ current → Recur (left_to_drain s) → Valid s → s.runs ≡ run ∷ [] → GoesOn [] s
from_run s run true current recur reached one =
    let gives = has_given run.kind run.input run.attempt run.turn in
    let most = (found_valid s run.run run reached (found_one s run one)).turn in
    from_gave (999 - run.turn) s run gives.gave gives.may_give (omega (arith, most)) recur reached current one
from_run s run false stopped recur reached one = from_end s run (returns s run stopped one) recur reached one

settle_by : (s : State) (runs : List Run) → s.runs ≡ runs → Recur (left_to_drain s) → Valid s → length runs ≤ 1 → GoesOn [] s
settle_by s [] is recur reached few = from_rest s (first_of s) refl recur reached is
settle_by s (run ∷ []) is recur reached few = from_run s run run.current refl recur reached is
settle_by s (run ∷ other ∷ runs) is recur reached few = absurd (omega arith)

-- the run that is unreturned comes back, and all that is startable is driven to its end, since each step leaves fewer works
settle : (n : ℕ) → Recur n
settle zero s reached few below = absurd (omega arith)
settle (suc n) s reached few below = settle_by s s.runs refl (λ t v one fewer. settle n t v one (omega arith)) reached few

-- ---- the lines

-- the lines follow one another, each once all before it is done
pub goes_on : (lines : List Command) (s : State) → AllByRecursion IsAskable lines → Valid s → length s.runs ≤ 1 → GoesOn lines s
goes_on [] s askable reached few = settle (suc (left_to_drain s)) s reached few (omega arith)
goes_on (asked ∷ lines) s askable reached few =
    let done = settle (suc (left_to_drain s)) s reached few (omega arith) in
    let t = done.last in
    let owed = answered t asked askable.0 in
    let answer = reply_where_asked t asked 0 askable.0 (record { settled = λ settles. done.quiet }) in
    let e = event.Command 0 asked answer.0 in
    let legal : Legal t e = answer.1 in
    let no_run : (after t e).runs ≡ [] = ap (λ (f : Frame). f.runs) owed.frame.frame_is ∙ ap (map owed.frame.change) done.quiet.no_run in
    GoesOn-then s (asked ∷ lines) done (GoesOn-more t e lines legal done.quiet
    (goes_on lines (after t e) askable.1 (Valid-after t e done.reached legal) (subst (λ (runs : List Run). length runs ≤ 1) (sym no_run) (omega arith))))
