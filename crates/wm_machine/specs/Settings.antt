-- The commands that set the moment and the conditions, and the one that hushes. After the guide's page "Define work requests", "Work
-- constraints"; that a moment doesn't go back, what a stop leaves of a work, and the hush, are this project's own choice.
use Rattle.std.specs.Prelude.{ℕ, ◌==◌, ◌&&◌, Bool, true, not, List, [], map, count_by, nat_lt, if◌then◌else◌}
use Rattle.std.specs.List.{list_any}
use Rattle.wm_conditions.specs.Met.{met}
use Rattle.wm_conditions.specs.declared.conditions.Conditions.{Conditions}
use Rattle.wm_machine.specs.Replied.{Outcome, unchanged}
use Rattle.wm_machine.specs.Runs.{with_stopped}
use Rattle.wm_machine.specs.declared.record.Phase.TheVariants as phase
use Rattle.wm_machine.specs.declared.record.Record.{Record}
use Rattle.wm_machine.specs.declared.reply.Refusal.TheVariants.{MomentBack}
use Rattle.wm_machine.specs.declared.reply.Reply.TheVariants as reply
use Rattle.wm_machine.specs.declared.state.Run.{Run}
use Rattle.wm_machine.specs.declared.state.State.{State}

-- a moment below the present one is refused
abbrev pub moved : State → ℕ → Outcome
moved s at =
    if nat_lt at s.now then unchanged s (reply.Refused (MomentBack s.now)) else record { reply = reply.Moment; state = record s { now = at } }

-- from now on only summaries are written
abbrev pub hushed : State → Outcome
hushed s = record { reply = reply.Hushed; state = record s { hushed = true } }

-- whether a run is current, and such conditions don't meet the constraints that it took
abbrev pub is_stopped_by : Conditions → Run → Bool
is_stopped_by conditions run = run.current && not (met run.constraints conditions)

-- whether such a run is of a record
abbrev pub is_put_back_by : Conditions → List Run → Record → Bool
is_put_back_by conditions runs work = list_any (λ run. run.seq == work.seq && is_stopped_by conditions run) runs

-- a work whose run is stopped: it waits as it did before, in its attempt
abbrev pub put_back : Record → Record
put_back work = record work { phase = phase.Waiting; progress = [] }

-- All seven conditions are replaced. The current runs whose constraints they don't meet are stopped: their works wait, and the reply counts them.
abbrev pub conditioned : State → Conditions → Outcome
conditioned s conditions = record {
  reply = reply.Conditions (count_by (is_stopped_by conditions) s.runs);
  state = record s {
    conditions = conditions;
    works = map (λ work. if is_put_back_by conditions s.runs work then put_back work else work) s.works;
    runs = with_stopped (is_stopped_by conditions) s.runs;
  };
}
