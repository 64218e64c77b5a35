-- What the change of a step makes of a state and of the rows held, and when it fits a state.
use Rattle.std.specs.Prelude.{◌≡◌, ◌⊎◌, ℕ, ◌+◌, ◌^◌, ◌<◌, ◌==◌, ◌≤◌, ◌||◌, pos, Bool, true, false, not, List, [], ◌∷◌, ◌++◌, length, map, filter, slice_get, slice_set, Some, IsSomeAnd}
use Rattle.std.specs.List.{AllByRecursion}
use Rattle.wm_conditions.specs.declared.conditions.Conditions.{Conditions}
use Rattle.wm_keeper.specs.Keeper.{AreOfDifferentNumbers}
use Rattle.wm_keeper.specs.declared.row.Change.{Change}
use Rattle.wm_keeper.specs.declared.row.Change.TheVariants.{Put, Remove}
use Rattle.wm_machine.specs.Limits.{FitsRow}
use Rattle.wm_machine.specs.Retired.{with_retired}
use Rattle.wm_machine.specs.Rows.{row_of}
use Rattle.wm_machine.specs.Runs.{other_runs, with_out, with_stopped}
use Rattle.wm_machine.specs.Step.{Legal, after}
use Rattle.wm_machine.specs.Turns.{with_turned}
use Rattle.wm_machine.specs.Updated.{is_run_of, with_renewed}
use Rattle.wm_collections.specs.Lists.{HasOne, is_among}
use Rattle.wm_machine.specs.declared.event.Event.{Event}
use Rattle.wm_machine.specs.declared.record.Record.{Record}
use Rattle.wm_machine.specs.declared.state.Instance.{Instance}
use Rattle.wm_machine.specs.declared.state.Run.{Run}
use Rattle.wm_machine.specs.declared.state.State.{State}
use Rattle.wm_machine.specs.declared.state.WorkQuery.{WorkQuery}
use Rattle.wm_changes.specs.Nodes.{AreThere}
use Rattle.wm_changes.specs.Readiness.{TouchesAllFreed}
use Rattle.wm_changes.specs.Replacements.{MayReplace}
use Rattle.wm_changes.specs.declared.change.Replacement.{Replacement}
use Rattle.wm_changes.specs.declared.change.RunChange.{RunChange}
use Rattle.wm_changes.specs.declared.change.RunChange.TheVariants.{Unchanged, Begin, Turn, End, Stop, Renew}
use Rattle.wm_changes.specs.declared.change.SettingChange.{SettingChange}
use Rattle.wm_changes.specs.declared.change.SettingChange.TheVariants as set
use Rattle.wm_changes.specs.declared.change.StepChange.{StepChange}

-- ---- the state

-- the records, with each of these in its place
abbrev pub with_replaced : List Replacement → List Record → List Record
with_replaced [] works = works
with_replaced (replaced ∷ later) works = with_replaced later (slice_set works replaced.index replaced.work)

-- the records but for the one of this number
abbrev pub other_works : ℕ → List Record → List Record
other_works number works = filter (λ work. not (work.seq == number)) works

-- the records but for those of these numbers
abbrev pub without : List ℕ → List Record → List Record
without [] works = works
without (number ∷ numbers) works = without numbers (other_works number works)

-- a run begins, goes on, is over or is renewed, or some are stopped
abbrev pub runs_by : RunChange → List Run → List Run
runs_by Unchanged runs = runs
runs_by (Begin run) runs = runs ++ run ∷ []
runs_by (Turn run) runs = with_turned run runs
runs_by (End run instance) runs = other_runs run runs
runs_by (Stop numbers) runs = with_stopped (λ run. is_among numbers run.run) runs
runs_by (Renew seq) runs = with_renewed (is_run_of seq) runs

-- the instance of a run that begins is out, and that of a run that is over is idle
abbrev pub instances_by : RunChange → List Instance → List Instance
instances_by Unchanged instances = instances
instances_by (Begin run) instances = with_out true run.instance instances
instances_by (Turn run) instances = instances
instances_by (End run instance) instances = with_out false instance instances
instances_by (Stop numbers) instances = instances
instances_by (Renew seq) instances = instances

-- whether a run begins or is over, so that an instance is another one after it
abbrev pub moves_instance : RunChange → Bool
moves_instance (Begin run) = true
moves_instance (End run instance) = true
moves_instance _ = false

-- the number after those of the runs
abbrev pub next_run_by : RunChange → ℕ → ℕ
next_run_by Unchanged next = next
next_run_by (Begin run) next = next + 1
next_run_by (Turn run) next = next
next_run_by (End run instance) next = next
next_run_by (Stop numbers) next = next
next_run_by (Renew seq) next = next

-- where a run begins, there is a number for the next one
abbrev pub HasNextRun : RunChange → ℕ → Type 0
HasNextRun (Begin run) next = next + 1 < 2 ^ 64
HasNextRun _ next = Unit {0}

-- how many runs there are more
abbrev pub new_runs : RunChange → ℕ
new_runs (Begin run) = 1
new_runs _ = 0

-- the moment and the conditions, where they are set
abbrev pub now_by : SettingChange → ℕ → ℕ
now_by (set.Moment at) now = at
now_by _ now = now

abbrev pub conditions_by : SettingChange → Conditions → Conditions
conditions_by (set.Conditions conditions) before = conditions
conditions_by _ before = before

-- whether only summaries are written then
abbrev pub hushed_by : SettingChange → Bool → Bool
hushed_by set.Hush before = true
hushed_by _ before = before

-- the instances, with those of a class retired where that is set
abbrev pub retired_by : SettingChange → List Instance → List Instance
retired_by (set.Retire class) instances = with_retired class instances
retired_by _ instances = instances

-- whether those of a class are
abbrev pub retires : SettingChange → Bool
retires (set.Retire class) = true
retires _ = false

-- the observers, with one more where that is set
abbrev pub observers_by : SettingChange → List WorkQuery → List WorkQuery
observers_by (set.Observe query) before = before ++ query ∷ []
observers_by _ before = before

-- how many observers there are more
abbrev pub new_observers : SettingChange → ℕ
new_observers (set.Observe query) = 1
new_observers _ = 0

-- a state with what is set in it
abbrev pub set_by : SettingChange → State → State
set_by to s = record s {
  now = now_by to s.now;
  conditions = conditions_by to s.conditions;
  instances = retired_by to s.instances;
  observers = observers_by to s.observers;
  hushed = hushed_by to s.hushed;
}

-- the works after a change: without the removed ones, with the told and the replaced ones in place and the placed ones at the end
abbrev pub changed_works : StepChange → List Record → List Record
changed_works change works = without change.removed (with_replaced change.replaced (with_replaced change.told works)) ++ change.placed

-- the state after a change
abbrev pub changed_state : StepChange → State → State
changed_state change s = set_by change.setting (record s {
  works = changed_works change s.works;
  runs = runs_by change.run s.runs;
  instances = instances_by change.run s.instances;
  next = s.next + length change.placed;
  next_run = next_run_by change.run s.next_run;
})

-- whether some instance may be another one after a change
abbrev pub touches_instances : StepChange → Bool
touches_instances change = moves_instance change.run || retires change.setting

-- ---- the rows

abbrev pub put_replaced : Replacement → Change
put_replaced replaced = Put (row_of replaced.work)

abbrev pub remove_numbered : ℕ → Change
remove_numbered number = Remove (pos number)

abbrev pub put_work : Record → Change
put_work work = Put (row_of work)

-- what the keeper changes: the rows of the records that are replaced, removed and placed; those that are told keep theirs
abbrev pub row_changes : StepChange → List Change
row_changes change = map put_replaced change.replaced ++ map remove_numbered change.removed ++ map put_work change.placed

-- ---- when it fits

abbrev pub seqs_of : List Record → List ℕ
seqs_of works = map (λ work. work.seq) works

-- a record takes the place of one whose node it keeps
abbrev pub KeepsPlace : List Record → Replacement → Type 0
KeepsPlace works replaced = IsSomeAnd (slice_get works replaced.index) (λ old. MayReplace old replaced.work)

-- and one of its row
abbrev pub KeepsRow : List Record → Replacement → Type 0
KeepsRow works told = slice_get (map row_of works) told.index ≡ Some (row_of told.work)

-- the records have the numbers from this one on, in order
abbrev pub HaveNextNumbers : ℕ → List Record → Type 0
HaveNextNumbers next [] = Unit {0}
HaveNextNumbers next (work ∷ works) = (work.seq ≡ next) × HaveNextNumbers (next + 1) works

-- the prerequisites of new records are different records that stand before them, at most 100 of each
abbrev pub NameEarlier : List Record → List Record → Type 0
NameEarlier works [] = Unit {0}
NameEarlier works (work ∷ placed) = AreThere works work.prior × NameEarlier (works ++ work ∷ []) placed

-- a record that keeps its row is told alone: no other is, and nothing else becomes of records
pub record IsToldAlone (change : StepChange) : Type 0 where
  pub one : length change.told ≤ 1
  pub none_replaced : change.replaced ≡ []
  pub none_removed : change.removed ≡ []
  pub none_placed : change.placed ≡ []

pub record Fits (s : State) (change : StepChange) : Type 0 where
  pub told : AllByRecursion (KeepsRow s.works) change.told
  pub replaced : AllByRecursion (KeepsPlace s.works) change.replaced
  -- the records removed are there
  pub removed : AllByRecursion (λ number. HasOne (λ work. work.seq ≡ number) s.works) change.removed
  pub placed : HaveNextNumbers s.next change.placed
  pub named : NameEarlier s.works change.placed
  pub numbers : s.next + length change.placed ≤ 2 ^ 53
  pub replaced_rows : AllByRecursion (λ replaced. FitsRow replaced.work) change.replaced
  pub placed_rows : AllByRecursion FitsRow change.placed
  -- no row is changed twice, and a record that is told stands alone
  pub apart : AreOfDifferentNumbers (row_changes change)
  pub alone : (change.told ≡ []) ⊎ IsToldAlone change

-- the change is that of a legal step
pub record IsStepOf (s : State) (change : StepChange) : Type 0 where
  pub fits : Fits s change
  pub legal : Legal s change.event
  pub state : changed_state change s ≡ after s change.event
  -- it touches the works that it frees
  pub freeing : TouchesAllFreed s.works (changed_state change s).works change

-- ---- changes

-- something is set, or nothing: then only the log changes
abbrev pub setting : SettingChange → Event → StepChange
setting to event = record { told = []; replaced = []; removed = []; placed = []; run = Unchanged; setting = to; event = event }

-- one record is replaced
abbrev pub replacing : ℕ → Record → RunChange → Event → StepChange
replacing index work run event = record (setting set.Unchanged event) { replaced = record { index = index; work = work } ∷ []; run = run }

-- one record is replaced by one of its row, which is kept
abbrev pub keeping_row : ℕ → Record → RunChange → Event → StepChange
keeping_row index work run event = record (setting set.Unchanged event) { told = record { index = index; work = work } ∷ []; run = run }

-- several records are replaced
abbrev pub replacing_all : List Replacement → RunChange → Event → StepChange
replacing_all replaced run event = record (setting set.Unchanged event) { replaced = replaced; run = run }

-- records are removed
abbrev pub removing : List ℕ → Event → StepChange
removing removed event = record (setting set.Unchanged event) { removed = removed }

-- records are replaced, removed and placed
abbrev pub placing : List Replacement → List ℕ → List Record → RunChange → Event → StepChange
placing replaced removed placed run event =
    record (setting set.Unchanged event) { replaced = replaced; removed = removed; placed = placed; run = run }

-- something is set, and several records are replaced
abbrev pub setting_with : SettingChange → List Replacement → RunChange → Event → StepChange
setting_with to replaced run event = record (setting to event) { replaced = replaced; run = run }

-- a run is over, and nothing else changes
abbrev pub letting_go : ℕ → ℕ → Event → StepChange
letting_go run instance event = record (setting set.Unchanged event) { run = End run instance }

pub record IsLettingGo (change : StepChange) : Type 0 where
  pub number : ℕ
  pub instance : ℕ
  pub is : change ≡ letting_go number instance change.event
