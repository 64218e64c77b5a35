-- What the events of a hearing report on.
use Rattle.std.proofs.Common.{◌≡◌, ℕ, ◌≤◌, Bool, true, false, List, [], ◌∷◌, ◌++◌, append-nil, filter, length, nat_lt, if◌then◌else◌, refl, sym, ◌∙◌, ap, subst, arith, Option, Some, None, option_map, Result, Ok, Err, inl, inr}
use Rattle.std.proofs.lemmas.Bool.{cond_both}
use Rattle.std.proofs.lemmas.List.Elements.{filter_map-append}
use Rattle.std.specs.List.{AllByRecursion}
use Rattle.wm_asks.specs.declared.ask.LiveRefusal.{LiveRefusal}
use Rattle.wm_collections.proofs.Lists.{All-append}
use Rattle.wm_data.specs.declared.data.DataEntry.{DataEntry}
use Rattle.wm_hearings.specs.Hears.{date, hear_with, is_last, moved, Hears, HearsBy}
use Rattle.wm_hearings.specs.Leases.{expire, expire_each, expire_over, expiry_of, is_to_tell, tell_each, tell_stop, tell_stops}
use Rattle.wm_hearings.specs.Lines.{close, execute, executed, finished, hear, late, meet, met_by, of_run, progress, report, run_answer, say, turned, unturned}
use Rattle.wm_hearings.specs.Moments.{moment_of}
use Rattle.wm_hearings.specs.Parts.{makes, only, says, Part}
use Rattle.wm_hearings.specs.Reports.{named_by, named_in, reported, reports, IsAtMostOn, IsNoTimeout, ReportsOn}
use Rattle.wm_hearings.specs.Runs.{give_up, has_turn, named, renew, was_stopped}
use Rattle.wm_hearings.specs.Session.{Session}
use Rattle.wm_hearings.specs.Starts.{end, end_for, start, start_each}
use Rattle.wm_hearings.specs.declared.hearing.Heard.{Heard}
use Rattle.wm_hearings.specs.declared.hearing.Heard.TheVariants as heard
use Rattle.wm_hearings.specs.declared.hearing.Hearing.{Hearing}
use Rattle.wm_hearings.specs.declared.hearing.Stage.{Stage}
use Rattle.wm_hearings.specs.declared.hearing.Stage.TheVariants as stage
use Rattle.wm_hearings.specs.declared.hearing.Terms.{Terms}
use Rattle.wm_leases.specs.Leases.{over_at, runs_of}
use Rattle.wm_leases.specs.declared.leases.Lease.{Lease}
use Rattle.wm_machine.specs.Outcome.{outcome}
use Rattle.wm_machine.specs.Replied.{Outcome}
use Rattle.wm_machine.specs.Step.{after}
use Rattle.wm_machine.specs.declared.command.Command.{Command}
use Rattle.wm_machine.specs.declared.event.End.{End}
use Rattle.wm_machine.specs.declared.event.Event.{Event}
use Rattle.wm_machine.specs.declared.state.State.{State}
use Rattle.wm_machine.specs.declared.command.Command.TheVariants as command
use Rattle.wm_machine.specs.declared.command.LineFault.TheVariants as fault
use Rattle.wm_machine.specs.declared.event.End.TheVariants.{Retry}
use Rattle.wm_machine.specs.declared.event.Event.TheVariants as event
use Rattle.wm_serve_text.specs.Lines.{line_of}
use Rattle.wm_serve_text.specs.declared.answers.RunReply.TheVariants as reply
use Rattle.wm_serve_text.specs.declared.lines.SessionLine.{SessionLine}
use Rattle.wm_serve_text.specs.declared.lines.SessionLine.TheVariants as line

-- ---- a line

-- a line makes one event at most, and a report on this run alone; and that something was heard stays
pub record IsOfLine (on : Option ℕ) (old : Session) (part : Part) : Type 0 where
  pub by_line : IsAtMostOn on (reports part.events)
  pub few : length part.events ≤ 1
  pub in_time : AllByRecursion IsNoTimeout part.events
  pub heard : part.session.heard ≡ old.heard

no-event : (on : Option ℕ) (text : List ℕ) (old new : Session) → new.heard ≡ old.heard → IsOfLine on old (says text new)
no-event None text old new same = record { by_line = refl; few = omega arith; in_time = tt; heard = same }
no-event (Some run) text old new same = record { by_line = inl refl; few = omega arith; in_time = tt; heard = same }

one-report : (e : Event) (run : ℕ) (text : List ℕ) (old new : Session) → reports (e ∷ []) ≡ run ∷ [] → IsNoTimeout e → new.heard ≡ old.heard
    → IsOfLine (Some run) old (makes e text new)
one-report e run text old new one in_time same = record { by_line = inr one; few = omega arith; in_time = (in_time, tt); heard = same }

executed-line : (n : ℕ) (asked : Command) (found : Option Outcome) (session : Session) → IsOfLine None session (executed n asked found session)
executed-line n asked None session = no-event None [] session session refl
executed-line n asked (Some found) session = record { by_line = refl; few = omega arith; in_time = (tt, tt); heard = refl }

execute-line : (n : ℕ) (asked : Command) (session : Session) → IsOfLine None session (execute n asked session)
execute-line n asked session = executed-line n asked (outcome session.state asked) session

late-line : (n : ℕ) (name : List ℕ) (run : ℕ) (session : Session) → IsOfLine (Some run) session (late n name run session)
late-line n name run session =
    one-report (event.Late run) run (run_answer n name reply.Late session) session (give_up run session) refl tt refl

progress-line : (terms : Terms) (n : ℕ) (name : List ℕ) (told : Option (List DataEntry)) (run : ℕ) (session : Session)
    → IsOfLine (Some run) session (progress terms n name told run session)
progress-line terms n name told run session =
    let rest = if has_turn session.state run then turned terms n name run told session else unturned terms n name run session in
    cond_both (was_stopped session.state run) (late n name run session) rest (IsOfLine (Some run) session) (λ _. late-line n name run session)
    (λ _. cond_both (has_turn session.state run) (turned terms n name run told session) (unturned terms n name run session) (IsOfLine (Some run) session)
    (λ _. one-report (event.Turn run told) run (run_answer n name reply.Progress session) session (renew terms run session) refl tt refl)
    (λ _. no-event (Some run) (run_answer n name reply.NoTurnLeft session) session (renew terms run session) refl))

report-line : (n : ℕ) (name : List ℕ) (end : End) (run : ℕ) (session : Session) → IsOfLine (Some run) session (report n name end run session)
report-line n name end run session =
    cond_both (was_stopped session.state run) (late n name run session) (finished n name run end session) (IsOfLine (Some run) session)
    (λ _. late-line n name run session)
    (λ _. one-report (event.Finish run end) run (run_answer n name reply.Reported session) session (give_up run session) refl tt refl)

of_run-line : (n : ℕ) (name : List ℕ) (found : Option Lease) (part : ℕ → Session → Part) (session : Session)
    → ((run : ℕ) → IsOfLine (Some run) session (part run session))
    → IsOfLine (option_map (λ lease. lease.run) found) session (of_run n name found part session)
of_run-line n name None part session each = no-event None (run_answer n name reply.NoSuchRun session) session session refl
of_run-line n name (Some lease) part session each = each lease.run

close-line : (n : ℕ) (at : Stage) (session : Session) → IsOfLine None session (close n at session)
close-line n stage.Open session = no-event None [] session (record session { stage = stage.Closing n }) refl
close-line n _ session = record { by_line = refl; few = omega arith; in_time = tt; heard = refl }

meet-line : (n : ℕ) (asked : Result Command LiveRefusal) (session : Session) → IsOfLine None session (meet n asked session)
meet-line n (Ok asked) session = execute-line n asked session
meet-line n (Err refusal) session = record { by_line = refl; few = omega arith; in_time = tt; heard = refl }

say-line : (terms : Terms) (n : ℕ) (said : SessionLine) (session : Session) → IsOfLine (named_by terms said session) session (say terms n said session)
say-line terms n (line.Command asked) session = execute-line n asked session
say-line terms n (line.Progress name told) session =
    of_run-line n name (named terms name session) (progress terms n name told) session (λ run. progress-line terms n name told run session)
say-line terms n (line.Report name end) session =
    of_run-line n name (named terms name session) (report n name end) session (λ run. report-line n name end run session)
say-line terms n (line.Beat names) session = record { by_line = refl; few = omega arith; in_time = tt; heard = refl }
say-line terms n line.Close session = close-line n session.stage session
say-line terms n (line.Met asked) session = meet-line n (met_by session.state asked) session
say-line terms n line.Wake session = record { by_line = refl; few = omega arith; in_time = tt; heard = refl }

pub hear-line : (terms : Terms) (n : ℕ) (heard : Heard) (session : Session)
    → IsOfLine (named_in terms heard session) session (hear terms n heard session)
hear-line terms n (heard.Line bytes) session = say-line terms n (line_of bytes) session
hear-line terms n heard.TooLong session = execute-line n (command.Faulty fault.Bad) session
hear-line terms n _ session = record { by_line = refl; few = omega arith; in_time = tt; heard = refl }

-- ---- all else

-- some events report on these runs, and on none that used up its turns
record Report (runs : List ℕ) (events : List Event) : Type 0 where
  on : reports events ≡ runs
  in_time : AllByRecursion IsNoTimeout events

report-then : (runs more : List ℕ) (one other : List Event) → Report runs one → Report more other → Report (runs ++ more) (one ++ other)
report-then runs more one other is also = record {
  on = filter_map-append reported one other ∙ ap (λ before. before ++ reports other) is.on ∙ ap (λ rest. runs ++ rest) also.on;
  in_time = All-append IsNoTimeout one other is.in_time also.in_time;
}

date-reports : (terms : Terms) (at : ℕ) (old : Session) → Report [] (date terms at old).events
date-reports terms at old =
    let e = moved (moment_of at) in
    let dated : Part = record { events = e ∷ []; text = []; session = record old { state = after old.state e } } in
    cond_both (nat_lt old.state.now (moment_of at)) dated (only old) (λ (part : Part). Report [] (part.events ++ []))
    (λ _. record { on = refl; in_time = (tt, tt) }) (λ _. record { on = refl; in_time = tt })

expiry-reports : (s : State) (run : ℕ) → Report (run ∷ []) (expiry_of s run ∷ [])
expiry-reports s run =
    cond_both (was_stopped s run) (event.Late run) (event.Finish run Retry) (λ e. Report (run ∷ []) (e ∷ []))
    (λ _. record { on = refl; in_time = (tt, tt) }) (λ _. record { on = refl; in_time = (tt, tt) })

-- each run whose lease is over is reported on
expire_each-reports : (terms : Terms) (runs : List ℕ) (session : Session) → Report runs (expire_each terms runs session).events
expire_each-reports terms [] session = record { on = refl; in_time = tt }
expire_each-reports terms (run ∷ runs) session =
    let after = expire terms run session in
    report-then (run ∷ []) runs after.events (expire_each terms runs after.session).events (expiry-reports session.state run)
    (expire_each-reports terms runs after.session)

tell_each-reports : (terms : Terms) (runs : List ℕ) (session : Session) → Report [] (tell_each terms runs session).events
tell_each-reports terms [] session = record { on = refl; in_time = tt }
tell_each-reports terms (run ∷ runs) session = tell_each-reports terms runs (tell_stop terms run session).session

start-reports : (terms : Terms) (e : Event) (session : Session) → Report [] (start terms e session).events
start-reports terms (event.Start run seq instance input) session = record { on = refl; in_time = (tt, tt) }
start-reports terms (event.StartFailed seq cause) session = record { on = refl; in_time = (tt, tt) }
start-reports terms _ session = record { on = refl; in_time = tt }

start_each-reports : (terms : Terms) (starts : List Event) (session : Session) → Report [] (start_each terms starts session).events
start_each-reports terms [] session = record { on = refl; in_time = tt }
start_each-reports terms (e ∷ starts) session =
    let after = start terms e session in
    report-then [] [] after.events (start_each terms starts after.session).events (start-reports terms e session)
    (start_each-reports terms starts after.session)

end-reports : (at : Stage) (out : List Lease) (session : Session) → Report [] (end_for at out session).events
end-reports (stage.Closing n) [] session = record { on = refl; in_time = tt }
end-reports _ out session = record { on = refl; in_time = tt }

-- ---- a hearing

heard-reports : (terms : Terms) (n : ℕ) (hearing : Hearing) (starts : List Event) (old : Session)
    → ReportsOn terms n hearing old (hear_with terms n hearing starts old)
heard-reports terms n hearing starts old =
    let dated = date terms hearing.at old in
    let lined = hear terms n hearing.heard dated.session in
    let expired = expire_over terms lined.session in
    let told = tell_stops terms expired.session in
    let started = start_each terms starts told.session in
    let ended = end started.session in
    let over = runs_of (over_at lined.session.clock lined.session.out) in
    let by_line = hear-line terms n hearing.heard dated.session in
    let line : Report (reports lined.events) lined.events = record { on = refl; in_time = by_line.in_time } in
    let stops = tell_each-reports terms (runs_of (filter (is_to_tell expired.session.state) expired.session.out)) expired.session in
    let expiries = report-then over [] expired.events told.events (expire_each-reports terms over lined.session) stops in
    let middle = report-then (reports lined.events) (over ++ []) lined.events (expired.events ++ told.events) line expiries in
    let front = report-then [] (reports lined.events ++ (over ++ [])) dated.events (lined.events ++ (expired.events ++ told.events))
    (date-reports terms hearing.at old) middle in
    let back = report-then [] [] started.events ended.events (start_each-reports terms starts told.session)
    (end-reports started.session.stage started.session.out started.session) in
    let all = report-then (reports lined.events ++ (over ++ [])) [] (dated.events ++ (lined.events ++ (expired.events ++ told.events)))
    (started.events ++ ended.events) front back in record {
      dated = dated.session;
      lined = lined;
      dated_is = refl;
      lined_is = refl;
      by_line = by_line.by_line;
      few = by_line.few;
      all = all.on ∙ append-nil (reports lined.events ++ (over ++ [])) ∙ ap (λ runs. reports lined.events ++ runs) (append-nil over);
      no_timeout = all.in_time;
    }

reports-by : (ends : Bool) (terms : Terms) (n : ℕ) (hearing : Hearing) (old : Session) (part : Part) → HearsBy ends terms n hearing old part
    → ends ≡ false → ReportsOn terms n hearing old part
reports-by true terms n hearing old part hears goes_on = absurd (cc)
reports-by false terms n hearing old part hears goes_on =
    subst (λ part. ReportsOn terms n hearing old part) (sym hears.part_is) (heard-reports terms n hearing hears.starts old)

pub reports-on : (terms : Terms) (n : ℕ) (hearing : Hearing) (old : Session) (part : Part) → Hears terms n hearing old part
    → is_last hearing.heard ≡ false → ReportsOn terms n hearing old part
reports-on terms n hearing old part hears goes_on = reports-by (is_last hearing.heard) terms n hearing old part hears goes_on

pub date-none : (terms : Terms) (at : ℕ) (old : Session) → reports (date terms at old).events ≡ []
date-none terms at old = (date-reports terms at old).on
