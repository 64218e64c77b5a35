-- What the end of a work makes of the records: of the work itself, and of those that it reaches.
use Rattle.std.specs.Prelude.{ℕ, ◌==◌, ◌&&◌, Bool, not, List, [], filter, ◌∷◌, if◌then◌else◌, Option, Some, None}
use Rattle.wm_collections.specs.Lists.{is_among}
use Rattle.wm_graph.specs.Marks.{freed_by}
use Rattle.wm_graph.specs.Nodes.{NodeFields}
use Rattle.wm_machine.specs.Closed.{closed, is_open}
use Rattle.wm_machine.specs.Ends.{ended, not_started}
use Rattle.wm_machine.specs.First.{is_waiting}
use Rattle.wm_machine.specs.declared.event.End.{End}
use Rattle.wm_machine.specs.declared.event.End.TheVariants.{Success, Failure, Retry}
use Rattle.wm_machine.specs.declared.record.How.TheVariants as how
use Rattle.wm_machine.specs.declared.record.Record.{Record}
use Rattle.wm_machine.specs.declared.state.State.{State}
use Rattle.wm_runs.specs.declared.reach.Reach.{Reach}
use Rattle.wm_runs.specs.declared.reach.Reach.TheVariants as reach
use Rattle.wm_schedule.specs.declared.schedule.Period.{Period}
use Rattle.wm_changes.specs.Nodes.{nodes_of, reached_from}
use Rattle.wm_changes.specs.Replacements.{replacements}
use Rattle.wm_changes.specs.declared.change.Replacement.{Replacement}

-- ---- what is reached

-- what becomes of another record; nothing where it stays
abbrev pub reached_by : Reach → Record → Option Record
reached_by reach.Stays work = None
reached_by (reach.Closes how numbers now) work =
    if is_open work.phase && is_among numbers work.seq then Some (closed how now work) else None
reached_by (reach.Frees numbers now) work =
    if is_waiting work.phase && is_among numbers work.seq then Some (record work { enqueued_at = now }) else None

-- what becomes of each record: the work that comes to an end becomes this one
abbrev pub change_by : Record → Reach → Record → Option Record
change_by itself reach work = if work.seq == itself.seq then Some itself else reached_by reach work

abbrev pub replaced_by : Record → Reach → List Record → List Replacement
replaced_by itself reach works = replacements (change_by itself reach) 0 works

-- the numbers of those that may be reached
abbrev pub numbers_of : Reach → List ℕ
numbers_of reach.Stays = []
numbers_of (reach.Closes how numbers now) = numbers
numbers_of (reach.Frees numbers now) = numbers

-- numbers but for this one
abbrev pub others : ℕ → List ℕ → List ℕ
others seq numbers = filter (λ number. not (number == seq)) numbers

-- ---- the ends, where these are the nodes of the records

-- what the end of a run reaches: the failure of one-time work closes its descendants, and its success frees those that it held back
abbrev pub end_reach : Option Period → ℕ → ℕ → End → List NodeFields → Reach
end_reach period now seq Retry nodes = reach.Stays
end_reach (Some period) now seq _ nodes = reach.Stays
end_reach None now seq (Success output) nodes = reach.Frees (freed_by nodes seq) now
end_reach None now seq (Failure output) nodes = reach.Closes how.Failed (reached_from (seq ∷ []) nodes) now

-- the records that the end of a run replaces, which was renewed or wasn't
abbrev pub replaced_by_end : State → Bool → Record → End → List Replacement
replaced_by_end s renewed work end =
    replaced_by (ended renewed s.now end work) (end_reach work.request.period s.now work.seq end (nodes_of s.works)) s.works

-- what a failed start reaches: that of one-time work closes its descendants
abbrev pub not_started_reach : Option Period → ℕ → ℕ → List NodeFields → Reach
not_started_reach None now seq nodes = reach.Closes how.Failed (reached_from (seq ∷ []) nodes) now
not_started_reach (Some period) now seq nodes = reach.Stays

abbrev pub replaced_by_no_start : State → Record → List Replacement
replaced_by_no_start s work =
    replaced_by (not_started s.now work) (not_started_reach work.request.period s.now work.seq (nodes_of s.works)) s.works
