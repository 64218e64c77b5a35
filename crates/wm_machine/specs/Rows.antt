-- The rows that are kept for a state. The form is this project's own choice.
use Rattle.std.specs.Prelude.{◌≡◌, ◌⊎◌, ℕ, ◌+◌, ℤ, pos, negsuc, Bool, List, [], ◌∷◌, map, Option, Some, None, if◌then◌else◌}
use Rattle.wm_conditions.specs.declared.conditions.Constraints.{Constraints}
use Rattle.wm_conditions.specs.declared.conditions.Network.{Network}
use Rattle.wm_conditions.specs.declared.conditions.Network.TheVariants as network
use Rattle.wm_data.specs.DataJson.{data_text}
use Rattle.wm_data.specs.declared.merger.Merger.{Merger}
use Rattle.wm_data.specs.declared.merger.Merger.TheVariants.{Overwriting, ArrayCreating}
use Rattle.wm_keeper.specs.declared.row.Row.{Row}
use Rattle.wm_machine.specs.declared.record.How.TheVariants as how
use Rattle.wm_machine.specs.declared.record.Phase.{Phase}
use Rattle.wm_machine.specs.declared.record.Phase.TheVariants as phase
use Rattle.wm_machine.specs.declared.record.Record.{Record}
use Rattle.wm_machine.specs.declared.state.State.{State}
use Rattle.wm_schedule.specs.declared.schedule.BackoffPolicy.{BackoffPolicy}
use Rattle.wm_schedule.specs.declared.schedule.BackoffPolicy.TheVariants.{Linear, Exponential}
use Rattle.wm_schedule.specs.declared.schedule.Period.{Period}

abbrev pub kind_code : Option Period → ℤ
kind_code None = pos 0
kind_code (Some period) = pos 1

abbrev pub period_code : Option Period → ℤ
period_code None = pos 0
period_code (Some period) = pos period.period

abbrev pub flex_code : Option Period → ℤ
flex_code None = pos 0
flex_code (Some period) = pos period.flex

abbrev pub policy_code : BackoffPolicy → ℤ
policy_code Linear = pos 0
policy_code Exponential = pos 1

abbrev pub merger_code : Merger → ℤ
merger_code Overwriting = pos 0
merger_code ArrayCreating = pos 1

abbrev pub network_code : Network → ℤ
network_code network.NotRequired = pos 0
network_code network.Connected = pos 1
network_code network.Unmetered = pos 2
network_code network.NotRoaming = pos 3
network_code network.Metered = pos 4

-- the weight of a constraint that is set
abbrev pub flag : Bool → ℕ → ℕ
flag set weight = if set then weight else 0

abbrev pub flags_code : Constraints → ℤ
flags_code c = pos (flag c.charging 8 + flag c.idle 4 + flag c.battery_not_low 2 + flag c.storage_not_low 1)

abbrev pub phase_code : Phase → ℤ
phase_code phase.Waiting = pos 0
phase_code phase.Running = pos 1
phase_code (phase.Done how.Succeeded) = pos 2
phase_code (phase.Done how.Failed) = pos 3
phase_code (phase.Done how.Cancelled) = pos 4

-- a moment, or -1 where there is none
abbrev pub moment_code : Option ℕ → ℤ
moment_code None = negsuc 0
moment_code (Some moment) = pos moment

-- the row of a record; progress isn't stored
abbrev pub row_of : Record → Row
row_of work = record {
  version = pos 2;
  seq = pos work.seq;
  id = work.request.id;
  name = work.name;
  class = work.request.class;
  kind = kind_code work.request.period;
  period = period_code work.request.period;
  flex = flex_code work.request.period;
  delay = pos work.request.initial_delay;
  policy = policy_code work.request.backoff.policy;
  wait = pos work.request.backoff.delay;
  merger = merger_code work.request.merger;
  network = network_code work.request.constraints.network;
  flags = flags_code work.request.constraints;
  phase = phase_code work.phase;
  attempt = pos work.attempt;
  backoff_n = pos work.backoff_n;
  runs = pos work.runs;
  generation = pos work.generation;
  enqueued_at = pos work.enqueued_at;
  input = data_text work.request.input;
  output = data_text work.output;
  prior = map pos work.prior;
  tags = work.request.tags;
  next_at = moment_code work.override_at;
  keep_for = pos work.request.keep;
  finished_at = pos work.finished_at;
}

-- a row as the first form has it, which tells nothing of the next run, the keeping time or the moment at which the work finished
abbrev pub in_first_form : Row → Row
in_first_form row = record row { version = pos 1 }

-- a record has none of what the first form doesn't tell
pub record FitsFirstForm (work : Record) : Type 0 where
  pub no_override : work.override_at ≡ None
  pub not_kept : work.request.keep ≡ 0
  pub no_moment : work.finished_at ≡ 0

-- a row is one of a record: the one that is kept for it, or that one in the first form
abbrev pub IsRowOf : Row → Record → Type 0
IsRowOf row work = (row ≡ row_of work) ⊎ ((row ≡ in_first_form (row_of work)) × FitsFirstForm work)

-- the rows are those of these records, side by side
abbrev pub AreRowsOf : List Row → List Record → Type 0
AreRowsOf [] [] = Unit {0}
AreRowsOf (row ∷ rows) (work ∷ works) = IsRowOf row work × AreRowsOf rows works
AreRowsOf _ _ = ⊥

-- the rows of a state, in ascending number
abbrev pub rows_of : State → List Row
rows_of s = map row_of s.works
