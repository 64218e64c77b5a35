-- What a line says of a work. The grammar is this project's own choice.
use Rattle.std.specs.Prelude.{ℕ, ◌^◌, ◌<◌, List, [], ◌∷◌, codes, if◌then◌else◌, Option, Some, None, option_map}
use Rattle.serde_json.specs.Data as json
use Rattle.serde_json.specs.Find.{as_str, get}
use Rattle.serde_json.specs.View.{view}
use Rattle.wm_conditions.specs.Defaults.{unconstrained}
use Rattle.wm_conditions.specs.declared.conditions.Constraints.{Constraints}
use Rattle.wm_conditions.specs.declared.conditions.Network.{Network}
use Rattle.wm_conditions.specs.declared.conditions.Network.TheVariants as network
use Rattle.wm_data.specs.declared.merger.Merger.{Merger}
use Rattle.wm_data.specs.declared.merger.Merger.TheVariants.{Overwriting, ArrayCreating}
use Rattle.wm_request.specs.declared.request.NextRun.{NextRun}
use Rattle.wm_request.specs.declared.request.NextRun.TheVariants.{Leave, At, Clear}
use Rattle.wm_schedule.specs.Defaults.{default_backoff}
use Rattle.wm_schedule.specs.declared.schedule.Backoff.{Backoff}
use Rattle.wm_schedule.specs.declared.schedule.BackoffPolicy.{BackoffPolicy}
use Rattle.wm_schedule.specs.declared.schedule.BackoffPolicy.TheVariants.{Linear, Exponential}
use Rattle.wm_script.specs.Objects.{has_only}
use Rattle.wm_script.specs.Values.{◌>>=◌, flag_at, id_in, named_at, whole_at, whole_in}
use Rattle.wm_script.specs.declared.works.PeriodForm.{PeriodForm as ReadPeriod}
use Rattle.wm_script.specs.declared.works.WorkForm.{WorkForm as ReadWork}

-- ---- the keys of a work: the reader of each, with what an absent one stands for

-- an id; there has to be one
unfoldable pub id_at : Option json.Data → Option (List ℕ)
id_at value = do
  d ← value
  id_in d

-- a class: a text; an empty one, which is no class, where there is none
unfoldable pub class_at : Option json.Data → Option (List ℕ)
class_at None = Some []
class_at (Some d) = as_str d

abbrev pub mergers : List (List ℕ × Merger)
mergers = (codes "OVERWRITING", Overwriting) ∷ (codes "ARRAY", ArrayCreating) ∷ []

-- a merger by its name; OVERWRITING where there is none
unfoldable pub merger_at : Option json.Data → Option Merger
merger_at value = named_at mergers Overwriting value

abbrev pub networks : List (List ℕ × Network)
networks =
    (codes "NOT_REQUIRED", network.NotRequired) ∷
    (codes "CONNECTED", network.Connected) ∷
    (codes "UNMETERED", network.Unmetered) ∷
    (codes "NOT_ROAMING", network.NotRoaming) ∷
    (codes "METERED", network.Metered) ∷ []

-- a network by its name; NOT_REQUIRED where there is none
unfoldable pub network_at : Option json.Data → Option Network
network_at value = named_at networks network.NotRequired value

abbrev pub constraint_keys : List (List ℕ)
constraint_keys =
    codes "battery_not_low" ∷ codes "charging" ∷ codes "idle" ∷ codes "network" ∷ codes "storage_not_low" ∷ []

-- constraints, each of which may be absent; no constraint where there are none
unfoldable pub constraints_at : Option json.Data → Option Constraints
constraints_at None = Some unconstrained
constraints_at (Some d) = if has_only constraint_keys d then (do
  network ← network_at (get (codes "network") d)
  charging ← flag_at (get (codes "charging") d)
  idle ← flag_at (get (codes "idle") d)
  battery_not_low ← flag_at (get (codes "battery_not_low") d)
  storage_not_low ← flag_at (get (codes "storage_not_low") d)
  Some (record {
    network = network;
    charging = charging;
    idle = idle;
    battery_not_low = battery_not_low;
    storage_not_low = storage_not_low;
  })) else None

abbrev pub backoff_policies : List (List ℕ × BackoffPolicy)
backoff_policies = (codes "LINEAR", Linear) ∷ (codes "EXPONENTIAL", Exponential) ∷ []

-- a policy by its name; EXPONENTIAL where there is none
unfoldable pub backoff_policy_at : Option json.Data → Option BackoffPolicy
backoff_policy_at value = named_at backoff_policies Exponential value

-- a backoff with its delay as it is asked for; EXPONENTIAL from 30,000 ms where there is none
unfoldable pub backoff_at : Option json.Data → Option Backoff
backoff_at None = Some default_backoff
backoff_at (Some d) = if has_only (codes "delay" ∷ codes "policy" ∷ []) d then (do
  policy ← backoff_policy_at (get (codes "policy") d)
  delay ← whole_at 30000 (get (codes "delay") d)
  Some (record { policy = policy; delay = delay })) else None

-- a period with its flex interval and what is asked of the next run, as they are asked for
pub record PeriodForm : Type 0 where
  pub period : ℕ
  pub flex : Option ℕ
  pub next : NextRun

-- a flex interval, where there is one
unfoldable pub flex_at : Option json.Data → Option (Option ℕ)
flex_at None = Some None
flex_at (Some d) = do
  flex ← whole_in d
  Some (Some flex)

-- what is asked of the next run: its moment, or null to clear it
unfoldable pub next_in : json.Data → Option NextRun
next_in json.null = Some Clear
next_in d = do
  moment ← whole_in d
  Some (At moment)

-- nothing is asked where there is none
unfoldable pub next_at : Option json.Data → Option NextRun
next_at None = Some Leave
next_at (Some d) = next_in d

-- work is periodic where it has a period; without one neither a flex interval stands nor what is asked of the next run
unfoldable pub period_at : Option json.Data → Option json.Data → Option json.Data → Option (Option PeriodForm)
period_at None None None = Some None
period_at None (Some flex) next = None
period_at None None (Some next) = None
period_at (Some d) flex next = do
  period ← whole_in d
  flex ← flex_at flex
  next ← next_at next
  Some (Some (record { period = period; flex = flex; next = next }))

-- a moment that is asked for is at most 2^53 - 1
abbrev pub IsMoment : NextRun → Type 0
IsMoment (At moment) = moment < 2 ^ 53
IsMoment _ = Unit {0}

-- ---- a work

abbrev pub work_keys : List (List ℕ)
work_keys =
    codes "after" ∷ codes "backoff" ∷ codes "class" ∷ codes "constraints" ∷ codes "delay" ∷ codes "flex" ∷ codes "id" ∷ codes "input"
    ∷ codes "keep" ∷ codes "merger" ∷ codes "next" ∷ codes "period" ∷ codes "tags" ∷ []

-- a work as it stands in a line, where its input may be anything; its tags and the works that it is after stand in lists beside it
pub record WorkForm : Type 0 where
  pub id : List ℕ
  pub class : List ℕ
  pub input : Option json.Data
  pub merger : Merger
  pub constraints : Constraints
  pub backoff : Backoff
  pub delay : ℕ
  pub period : Option PeriodForm
  pub keep : ℕ

abbrev pub period_of : Option ReadPeriod → Option PeriodForm
period_of period = option_map (λ p. record { period = p.period; flex = p.flex; next = p.next }) period

-- the same, of a work that points to the value of its line
abbrev pub form_of : ReadWork → WorkForm
form_of work = record {
  id = work.id;
  class = work.class.now;
  input = option_map (λ input. view input.now) work.input;
  merger = work.merger;
  constraints = work.constraints;
  backoff = work.backoff;
  delay = work.delay;
  period = period_of work.period;
  keep = work.keep;
}

-- the work that an object is, which has no other key than these, without its lists
unfoldable pub work_of : json.Data → Option WorkForm
work_of d = if has_only work_keys d then (do
  id ← id_at (get (codes "id") d)
  class ← class_at (get (codes "class") d)
  merger ← merger_at (get (codes "merger") d)
  constraints ← constraints_at (get (codes "constraints") d)
  backoff ← backoff_at (get (codes "backoff") d)
  delay ← whole_at 0 (get (codes "delay") d)
  period ← period_at (get (codes "period") d) (get (codes "flex") d) (get (codes "next") d)
  keep ← whole_at 0 (get (codes "keep") d)
  Some (record {
    id = id;
    class = class;
    input = get (codes "input") d;
    merger = merger;
    constraints = constraints;
    backoff = backoff;
    delay = delay;
    period = period;
    keep = keep;
  })) else None
