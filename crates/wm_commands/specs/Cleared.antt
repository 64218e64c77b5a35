-- What becomes of the records where works are cancelled, let go or removed: by a cancel, by a prune, and before a batch is placed.
use Rattle.std.specs.Prelude.{ℕ, ◌&&◌, ◌||◌, Bool, not, List, [], map, filter, if◌then◌else◌, Option, Some, None}
use Rattle.std.specs.List.{list_any}
use Rattle.wm_collections.specs.Lists.{is_among}
use Rattle.wm_commands.specs.declared.clearing.Clearing.{Clearing}
use Rattle.wm_machine.specs.Closed.{closed, is_open}
use Rattle.wm_machine.specs.Group.{numbers_in, unnamed}
use Rattle.wm_machine.specs.Runs.{with_stopped}
use Rattle.wm_machine.specs.declared.record.How.TheVariants as how
use Rattle.wm_machine.specs.declared.record.Phase.{Phase}
use Rattle.wm_machine.specs.declared.record.Phase.TheVariants as phase
use Rattle.wm_machine.specs.declared.record.Record.{Record}
use Rattle.wm_machine.specs.declared.state.Run.{Run}
use Rattle.wm_machine.specs.declared.state.State.{State}
use Rattle.wm_changes.specs.Nodes.{nodes_of, reached_from}
use Rattle.wm_changes.specs.Replacements.{replacements}
use Rattle.wm_changes.specs.declared.change.Replacement.{Replacement}

-- ---- what is cancelled

-- whether a record becomes cancelled, where those of these numbers do that are unfinished
abbrev pub becomes_cancelled : List ℕ → Record → Bool
becomes_cancelled cancelled work = is_open work.phase && is_among cancelled work.seq

-- its phase then
abbrev pub phase_then : List ℕ → Record → Phase
phase_then cancelled work = if becomes_cancelled cancelled work then phase.Done how.Cancelled else work.phase

-- ---- what is removed

-- whether a record that is unfinished then has the work of this number as a prerequisite
abbrev pub is_needed_then : List ℕ → List Record → ℕ → Bool
is_needed_then cancelled works number = list_any (λ work. is_open (phase_then cancelled work) && is_among work.prior number) works

-- whether a record is finished then, and isn't needed
abbrev pub is_removable_then : List ℕ → List Record → Record → Bool
is_removable_then cancelled works work = not (is_open (phase_then cancelled work)) && not (is_needed_then cancelled works work.seq)

-- whether a record is removed, where those of the latter numbers are let go then
abbrev pub is_removed : List ℕ → List ℕ → List Record → Record → Bool
is_removed cancelled let_go works work =
    is_among let_go work.seq && (not (is_open (phase_then cancelled work)) && not (is_needed_then cancelled works work.seq))

-- the numbers of those that are
abbrev pub removed_by : List ℕ → List ℕ → List Record → List ℕ
removed_by cancelled let_go works = numbers_in (filter (is_removed cancelled let_go works) works)

-- ---- the records then

-- what becomes of the records where these works are cancelled at this moment, and then others let go
abbrev pub clearing_of : ℕ → List Record → List ℕ → List ℕ → Clearing
clearing_of at works cancel let_go = record {
  cancelled = reached_from cancel (nodes_of works);
  at = at;
  unnamed = let_go;
  removed = removed_by (reached_from cancel (nodes_of works)) let_go works;
}

-- what becomes of them where these are cancelled at this moment
abbrev pub cancelling : ℕ → List ℕ → Clearing
cancelling at cancelled = record { cancelled = cancelled; at = at; unnamed = []; removed = [] }

-- and where these are removed then
abbrev pub pruning : ℕ → List ℕ → Clearing
pruning at removed = record { cancelled = []; at = at; unnamed = []; removed = removed }

-- a record, cancelled at this moment where it becomes so
abbrev pub cancelled_in : ℕ → List ℕ → Record → Record
cancelled_in at cancelled work = if becomes_cancelled cancelled work then closed how.Cancelled at work else work

-- a record that isn't removed
abbrev pub cleared : Clearing → Record → Record
cleared clearing work = unnamed clearing.unnamed (cancelled_in clearing.at clearing.cancelled work)

-- whether a record isn't removed
abbrev pub stays : List ℕ → Record → Bool
stays removed work = not (is_among removed work.seq)

abbrev pub with_cleared : Clearing → List Record → List Record
with_cleared clearing works = map (cleared clearing) (filter (stays clearing.removed) works)

-- whether a run is of a work among these
abbrev pub is_run_among : List ℕ → Run → Bool
is_run_among seqs run = is_among seqs run.seq

-- the numbers of the current runs of what is cancelled
abbrev pub stopped_by : List ℕ → List Run → List ℕ
stopped_by cancelled runs = map (λ run. run.run) (filter (λ run. run.current && is_run_among cancelled run) runs)

-- the state then: the runs of what is cancelled are stopped
abbrev pub cleared_state : Clearing → State → State
cleared_state clearing s =
    record s { works = with_cleared clearing s.works; runs = with_stopped (is_run_among clearing.cancelled) s.runs }

-- whether a record is another one then
abbrev pub is_touched : Clearing → Record → Bool
is_touched clearing work =
    stays clearing.removed work && (is_among clearing.unnamed work.seq || becomes_cancelled clearing.cancelled work)

-- what takes the place of a record; nothing where it is removed or stays as it is
abbrev pub cleared_by : Clearing → Record → Option Record
cleared_by clearing work = if is_touched clearing work then Some (cleared clearing work) else None

abbrev pub replaced_by_clearing : Clearing → List Record → List Replacement
replaced_by_clearing clearing works = replacements (cleared_by clearing) 0 works
