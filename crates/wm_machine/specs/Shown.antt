-- What is shown of a work. After the guide's pages "Work states" and "Managing work" (`WorkInfo`); that it is due, and when, is this
-- project's own choice.
use Rattle.std.specs.Prelude.{ℕ, Bool, List, map, if◌then◌else◌, Option, Some, None}
use Rattle.wm_machine.specs.Due.{due_of}
use Rattle.wm_machine.specs.First.{all_met}
use Rattle.wm_machine.specs.declared.record.How.TheVariants as how
use Rattle.wm_machine.specs.declared.record.Phase.{Phase}
use Rattle.wm_machine.specs.declared.record.Phase.TheVariants as phase
use Rattle.wm_machine.specs.declared.record.Record.{Record}
use Rattle.wm_machine.specs.declared.record.Shown.{Shown}
use Rattle.wm_machine.specs.declared.record.Shown.TheVariants as shown
use Rattle.wm_machine.specs.declared.reply.WorkInfo.{WorkInfo}
use Rattle.wm_machine.specs.declared.state.State.{State}

-- the state shown of a work in this phase, whose prerequisites have all succeeded or haven't
abbrev pub shown_in : Phase → Bool → Shown
shown_in phase.Waiting all_met = if all_met then shown.Enqueued else shown.Blocked
shown_in phase.Running all_met = shown.Running
shown_in (phase.Done how.Succeeded) all_met = shown.Succeeded
shown_in (phase.Done how.Failed) all_met = shown.Failed
shown_in (phase.Done how.Cancelled) all_met = shown.Cancelled

-- enqueued work shows when it is due
abbrev pub due_shown : Shown → Record → Option ℕ
due_shown shown.Enqueued work = Some (due_of work)
due_shown _ work = None

-- what is told of a work in this shown state
abbrev pub info_in : Record → Shown → WorkInfo
info_in work state = record {
  seq = work.seq;
  id = work.request.id;
  name = work.name;
  state = state;
  attempt = work.attempt;
  due = due_shown state work;
  generation = work.generation;
  output = work.output;
  progress = work.progress;
  tags = work.request.tags;
}

-- the state shown of a work among these
abbrev pub shown_of : List Record → Record → Shown
shown_of works work = shown_in work.phase (all_met works work)

-- what is told of a work among these
abbrev pub info_of : List Record → Record → WorkInfo
info_of works work = info_in work (shown_of works work)

-- what is told of each work, in ascending number
unfoldable pub infos_of : State → List WorkInfo
infos_of s = map (info_of s.works) s.works
