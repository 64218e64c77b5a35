-- 3. A line is read, and does what it says.
use Rattle.std.specs.Prelude.{ℕ, Bool, false, List, [], filter, is_none, map, if◌then◌else◌, Option, Some, None, Result, Ok, Err}
use Rattle.std.specs.List.{list_any}
use Rattle.std.specs.Option.{option_map_or}
use Rattle.wm_asks.specs.AskTexts.{answer_text}
use Rattle.wm_asks.specs.Asked.{constraints_met, delay_met, period_met}
use Rattle.wm_asks.specs.declared.ask.LiveRefusal.{LiveRefusal}
use Rattle.wm_asks.specs.declared.ask.LiveReply.TheVariants as told
use Rattle.wm_data.specs.declared.data.DataEntry.{DataEntry}
use Rattle.wm_hearings.specs.Moments.{wake_of}
use Rattle.wm_hearings.specs.Parts.{answered, makes, only, says, Part}
use Rattle.wm_hearings.specs.Runs.{give_up, has_name, has_turn, named, new_end, renew, was_stopped}
use Rattle.wm_hearings.specs.Session.{Session}
use Rattle.wm_hearings.specs.declared.hearing.Heard.{Heard}
use Rattle.wm_hearings.specs.declared.hearing.Heard.TheVariants as heard
use Rattle.wm_hearings.specs.declared.hearing.Stage.{Stage}
use Rattle.wm_hearings.specs.declared.hearing.Stage.TheVariants as stage
use Rattle.wm_hearings.specs.declared.hearing.Terms.{Terms}
use Rattle.wm_leases.specs.Leases.{renewed}
use Rattle.wm_leases.specs.declared.leases.Lease.{Lease}
use Rattle.wm_machine.specs.Cancelled.{work_with_id}
use Rattle.wm_machine.specs.Outcome.{outcome}
use Rattle.wm_machine.specs.Replied.{Outcome}
use Rattle.wm_machine.specs.declared.command.Command.{Command}
use Rattle.wm_machine.specs.declared.command.Command.TheVariants as command
use Rattle.wm_machine.specs.declared.command.LineFault.TheVariants as fault
use Rattle.wm_machine.specs.declared.event.End.{End}
use Rattle.wm_machine.specs.declared.event.Event.TheVariants as event
use Rattle.wm_machine.specs.declared.state.State.{State}
use Rattle.wm_serve_text.specs.Answers.{beat_text, closing_text, run_reply_text}
use Rattle.wm_serve_text.specs.Lines.{line_of}
use Rattle.wm_serve_text.specs.declared.answers.RunReply.{RunReply}
use Rattle.wm_serve_text.specs.declared.answers.RunReply.TheVariants as reply
use Rattle.wm_serve_text.specs.declared.lines.Met.{Met}
use Rattle.wm_serve_text.specs.declared.lines.Met.TheVariants as met
use Rattle.wm_serve_text.specs.declared.lines.SessionLine.{SessionLine}
use Rattle.wm_serve_text.specs.declared.lines.SessionLine.TheVariants as line

-- ---- a command

-- its event, with the reply to it; each command of a session has one
abbrev pub executed : ℕ → Command → Option Outcome → Session → Part
executed n asked None session = only session
executed n asked (Some outcome) session = makes (event.Command n asked outcome.reply) [] session

abbrev pub execute : ℕ → Command → Session → Part
execute n asked session = executed n asked (outcome session.state asked) session

-- ---- reports

-- what is answered to a line that names a run
abbrev pub run_answer : ℕ → List ℕ → RunReply → Session → List ℕ
run_answer n name answer session = answered session (run_reply_text n name answer)

-- what was said of a run that was stopped comes too late: the run is away, and nothing else changes
abbrev pub late : ℕ → List ℕ → ℕ → Session → Part
late n name run session = makes (event.Late run) (run_answer n name reply.Late session) (give_up run session)

-- a run goes on to its next turn, and its lease begins anew
abbrev pub turned : Terms → ℕ → List ℕ → ℕ → Option (List DataEntry) → Session → Part
turned terms n name run progress session = makes (event.Turn run progress) (run_answer n name reply.Progress session) (renew terms run session)

-- it has no further turn: its progress isn't taken, and its lease begins anew
abbrev pub unturned : Terms → ℕ → List ℕ → ℕ → Session → Part
unturned terms n name run session = says (run_answer n name reply.NoTurnLeft session) (renew terms run session)

abbrev pub progress : Terms → ℕ → List ℕ → Option (List DataEntry) → ℕ → Session → Part
progress terms n name told run session =
    if was_stopped session.state run then late n name run session
    else if has_turn session.state run then turned terms n name run told session
    else unturned terms n name run session

-- a run is over, as was reported
abbrev pub finished : ℕ → List ℕ → ℕ → End → Session → Part
finished n name run end session = makes (event.Finish run end) (run_answer n name reply.Reported session) (give_up run session)

abbrev pub report : ℕ → List ℕ → End → ℕ → Session → Part
report n name end run session = if was_stopped session.state run then late n name run session else finished n name run end session

-- what is done with the run of this name; where no run that is out has it, that is answered, and nothing changes
abbrev pub of_run : ℕ → List ℕ → Option Lease → (ℕ → Session → Part) → Session → Part
of_run n name None part session = says (run_answer n name reply.NoSuchRun session) session
of_run n name (Some lease) part session = part lease.run session

-- ---- a beat

-- whether no run that is out has a name, and whether the one that has it was stopped
abbrev pub is_gone : Terms → Session → List ℕ → Bool
is_gone terms session name = is_none (named terms name session)

abbrev pub is_late : Terms → Session → List ℕ → Bool
is_late terms session name = option_map_or (λ lease. was_stopped session.state lease.run) (named terms name session) false

-- the leases of the runs of these names begin anew at the clock
abbrev pub renew_named : Terms → List (List ℕ) → Session → Session
renew_named terms names session = record session {
  out = map (λ lease. if list_any (λ name. has_name terms name lease) names then renewed (new_end terms session) lease else lease) session.out;
}

abbrev pub beat : Terms → ℕ → List (List ℕ) → Session → Part
beat terms n names session =
    says (answered session (beat_text n (filter (is_gone terms session) names) (filter (is_late terms session) names)))
    (renew_named terms names session)

-- ---- a close, and asks

-- nothing starts any more, and it is answered once no run is out; one that comes while it is closing is answered at once
abbrev pub close : ℕ → Stage → Session → Part
close n stage.Open session = only (record session { stage = stage.Closing n })
close n _ session = says (answered session (closing_text n)) session

-- what an ask that something of a work be met comes to: a command, or why it is refused
abbrev pub met_by : State → Met → Result Command LiveRefusal
met_by s (met.Delay id) = delay_met s id (work_with_id s.works id)
met_by s (met.Period id) = period_met s id (work_with_id s.works id)
met_by s (met.Constraints id) = constraints_met s id (work_with_id s.works id)

abbrev pub meet : ℕ → Result Command LiveRefusal → Session → Part
meet n (Ok asked) session = execute n asked session
meet n (Err refusal) session = says (answer_text n (told.Refused refusal) session.state.hushed) session

abbrev pub wake : ℕ → Session → Part
wake n session = says (answer_text n (told.Wake (wake_of session.state)) session.state.hushed) session

-- ---- a line

abbrev pub say : Terms → ℕ → SessionLine → Session → Part
say terms n (line.Command asked) session = execute n asked session
say terms n (line.Progress name told) session = of_run n name (named terms name session) (progress terms n name told) session
say terms n (line.Report name end) session = of_run n name (named terms name session) (report n name end) session
say terms n (line.Beat names) session = beat terms n names session
say terms n line.Close session = close n session.stage session
say terms n (line.Met asked) session = meet n (met_by session.state asked) session
say terms n line.Wake session = wake n session

-- a line that is too long is one that isn't in the grammar, and a pause does nothing here
abbrev pub hear : Terms → ℕ → Heard → Session → Part
hear terms n (heard.Line bytes) session = say terms n (line_of bytes) session
hear terms n heard.TooLong session = execute n (command.Faulty fault.Bad) session
hear terms n _ session = only session
