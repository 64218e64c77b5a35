-- How single fields of a row are read. The grammar is this project's own choice.
use Rattle.std.specs.Prelude.{ℕ, ◌-◌, ◌/◌, ◌%◌, ◌^◌, ◌==◌, ℤ, pos, negsuc, ◌&&◌, ◌||◌, Bool, true, false, not, List, [], ◌∷◌, length, nat_le, slice_get, if◌then◌else◌, Option, Some, None, is_none, option_map, option_and_then}
use Rattle.std.specs.Cmp.Lexicographic.{slice_cmp}
use Rattle.std.specs.List.{list_all}
use Rattle.std.specs.Ordering.{int_eq, is_lt, nat_cmp}
use Rattle.std.specs.Result.{result_ok}
use Rattle.std.specs.Str.{bytes_eq}
use Rattle.serde_json.specs.Read.{read}
use Rattle.wm_conditions.specs.declared.conditions.Constraints.{Constraints}
use Rattle.wm_conditions.specs.declared.conditions.Network.{Network}
use Rattle.wm_conditions.specs.declared.conditions.Network.TheVariants as network
use Rattle.wm_data.specs.DataJson.{data_text}
use Rattle.wm_data.specs.DataRead.{read_data}
use Rattle.wm_data.specs.declared.data.DataEntry.{DataEntry}
use Rattle.wm_data.specs.declared.merger.Merger.{Merger}
use Rattle.wm_data.specs.declared.merger.Merger.TheVariants.{Overwriting, ArrayCreating}
use Rattle.wm_machine.specs.declared.record.How.TheVariants as how
use Rattle.wm_machine.specs.declared.record.Phase.{Phase}
use Rattle.wm_machine.specs.declared.record.Phase.TheVariants as phase
use Rattle.wm_request.specs.Building.{is_short}
use Rattle.wm_rows.specs.declared.fields.Form.{Form}
use Rattle.wm_rows.specs.declared.fields.Form.TheVariants.{First, Second}
use Rattle.wm_schedule.specs.declared.schedule.BackoffPolicy.{BackoffPolicy}
use Rattle.wm_schedule.specs.declared.schedule.BackoffPolicy.TheVariants.{Linear, Exponential}
use Rattle.wm_schedule.specs.declared.schedule.Period.{Period}

infixl 10 ◌>>=◌
abbrev pub ◌>>=◌ : {A B : Type 0} → Option A → (A → Option B) → Option B
o >>= f = option_and_then f o

-- what passes a test
abbrev pub where_it_is : {T : Type 0} → Bool → T → Option T
where_it_is holds x = if holds then Some x else None

-- what each is read as, where each is read
abbrev pub each_in : {A B : Type 0} → (A → Option B) → List A → Option (List B)
each_in reading [] = Some []
each_in reading (x ∷ xs) = do
  first ← reading x
  others ← each_in reading xs
  Some (first ∷ others)

-- ---- numbers and codes

-- the greatest number of a work, and the greatest generation and moment
abbrev pub greatest : ℕ
greatest = 2 ^ 53 - 1

-- a number from the least to the most
unfoldable pub number_in : ℕ → ℕ → ℤ → Option ℕ
number_in least most (pos n) = where_it_is (nat_le least n && nat_le n most) n
number_in least most (negsuc n) = None

-- the form of a row of this version
unfoldable pub form_in : ℤ → Option Form
form_in version = do
  number ← number_in 1 2 version
  Some (if number == 1 then First else Second)

-- what a code stands for: its place among these
abbrev pub coded : {T : Type 0} → List T → ℤ → Option T
coded meanings (pos n) = slice_get meanings n
coded meanings (negsuc n) = None

-- whether work is periodic
abbrev pub kinds : List Bool
kinds = false ∷ true ∷ []

abbrev pub policies : List BackoffPolicy
policies = Linear ∷ Exponential ∷ []

abbrev pub mergers : List Merger
mergers = Overwriting ∷ ArrayCreating ∷ []

abbrev pub networks : List Network
networks = network.NotRequired ∷ network.Connected ∷ network.Unmetered ∷ network.NotRoaming ∷ network.Metered ∷ []

abbrev pub phases : List Phase
phases = phase.Waiting ∷ phase.Running ∷ phase.Done how.Succeeded ∷ phase.Done how.Failed ∷ phase.Done how.Cancelled ∷ []

-- how often work of a kind repeats: a period and a flex interval within it, and both 0 for one-time work
abbrev pub period_of : Bool → ℤ → ℤ → Option (Option Period)
period_of false period flex = do
  none ← number_in 0 0 period
  no_flex ← number_in 0 0 flex
  Some None
period_of true period flex = do
  period ← number_in 900000 315360000000 period
  flex ← number_in 300000 period flex
  Some (Some (record { period = period; flex = flex }))

unfoldable pub period_in : ℤ → ℤ → ℤ → Option (Option Period)
period_in kind period flex = do
  periodic ← coded kinds kind
  period_of periodic period flex

-- whether the flag of this weight is set
abbrev pub has_flag : ℕ → ℕ → Bool
has_flag weight flags = flags / weight % 2 == 1

unfoldable pub constraints_in : ℤ → ℤ → Option Constraints
constraints_in network flags = do
  network ← coded networks network
  flags ← number_in 0 15 flags
  Some (record {
    network = network;
    charging = has_flag 8 flags;
    idle = has_flag 4 flags;
    battery_not_low = has_flag 2 flags;
    storage_not_low = has_flag 1 flags;
  })

-- how long a record is kept at most; the first form doesn't tell
abbrev pub most_keep : Form → ℕ
most_keep First = 0
most_keep Second = 315360000000

-- ---- how far work has come

-- whether work in this phase has given something
abbrev pub has_given : Phase → Bool
has_given (phase.Done how.Succeeded) = true
has_given (phase.Done how.Failed) = true
has_given _ = false

-- a phase; periodic work has none in which it would have given something
unfoldable pub phase_in : Option Period → ℤ → Option Phase
phase_in period phase = do
  phase ← coded phases phase
  where_it_is (is_none period || not (has_given phase)) phase

-- work that runs or has succeeded was started
abbrev pub least_attempt : Phase → ℕ
least_attempt phase.Running = 1
least_attempt (phase.Done how.Succeeded) = 1
least_attempt _ = 0

-- one-time work has run no period
abbrev pub most_runs : Option Period → ℕ
most_runs None = 0
most_runs (Some period) = 1000000

-- whether a row of this form may tell of a moment for the next run, which periodic work has alone
abbrev pub may_override : Form → Option Period → Bool
may_override Second (Some period) = true
may_override _ _ = false

-- a moment, where there may be one, and -1 where there is none
unfoldable pub moment_in : Bool → ℤ → Option (Option ℕ)
moment_in may value =
    if int_eq value (negsuc 0) then Some None
    else if may then option_map Some (number_in 0 greatest value) else None

-- the last moment at which work in this phase may have finished: it is told of finished work alone, and not in the first form
abbrev pub last_finish : Form → Phase → ℕ
last_finish Second (phase.Done how) = greatest
last_finish _ _ = 0

-- the prerequisites by their numbers; periodic work has none
abbrev pub most_prior : Option Period → ℕ
most_prior None = 100
most_prior (Some period) = 0

unfoldable pub prior_in : Option Period → List ℤ → Option (List ℕ)
prior_in period prior = do
  prior ← where_it_is (nat_le (length prior) (most_prior period)) prior
  each_in (number_in 1 greatest) prior

-- ---- texts

-- the sixteen bytes of an id
abbrev pub id_in : List ℕ → Option (List ℕ)
id_in id = where_it_is (length id == 16) id

abbrev pub short_in : List ℕ → Option (List ℕ)
short_in text = where_it_is (is_short text) text

-- a name, where there is one
abbrev pub name_in : Option (List ℕ) → Option (Option (List ℕ))
name_in None = Some None
name_in (Some name) = option_map Some (short_in name)

-- each text comes before the next by its bytes
abbrev pub ascend : List (List ℕ) → Bool
ascend [] = true
ascend (text ∷ []) = true
ascend (text ∷ next ∷ texts) = is_lt (slice_cmp nat_cmp text next) && ascend (next ∷ texts)

-- at most 32 tags
abbrev pub are_tags : List (List ℕ) → Bool
are_tags tags = nat_le (length tags) 32 && (list_all is_short tags && ascend tags)

abbrev pub tags_in : List (List ℕ) → Option (List (List ℕ))
tags_in tags = where_it_is (are_tags tags) tags

-- the Data of a canonical text: one that is written for what it is read as
unfoldable pub data_in : List ℕ → Option (List DataEntry)
data_in text = do
  json ← read text
  entries ← result_ok (read_data json)
  where_it_is (bytes_eq (data_text entries) text) entries

-- an output; it is empty where work in this phase hasn't given anything
unfoldable pub output_in : Phase → List ℕ → Option (List DataEntry)
output_in phase text = do
  output ← data_in text
  where_it_is (has_given phase || (length output == 0)) output
