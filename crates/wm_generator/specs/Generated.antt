-- A large input that a seed gives: groups of works, each a chain of three layers, with the commands before and after them. Its numbers are drawn as
-- in Knuth's MMIX; what the groups are is this project's own choice.
use Rattle.std.specs.Prelude.{ℕ, zero, suc, ◌+◌, ◌*◌, ◌/◌, ◌%◌, ◌^◌, ◌==◌, Bool, true, List, [], ◌∷◌, ◌++◌, codes, if◌then◌else◌, None, pos}
use Rattle.std.specs.Int.{to_be_bytes, w128}
use Rattle.wm_conditions.specs.Defaults.{opening_conditions}
use Rattle.wm_conditions.specs.Signatures.{constraints_of}
use Rattle.wm_conditions.specs.declared.conditions.Conditions.{Conditions as ConditionFields}
use Rattle.wm_conditions.specs.declared.conditions.Constraints.{Constraints}
use Rattle.wm_chain.specs.Layers.{chained, no_layer}
use Rattle.wm_data.specs.declared.data.DataEntry.{DataEntry}
use Rattle.wm_data.specs.declared.value.Value.TheVariants.{Int}
use Rattle.wm_machine.specs.declared.command.Command.{Command}
use Rattle.wm_machine.specs.declared.command.Command.TheVariants.{Cancel, Conditions, Enqueue, Hush, Moment, Settle, Summary}
use Rattle.wm_machine.specs.declared.command.Target.TheVariants.{Tag}
use Rattle.wm_request.specs.Building.{one_time_of}
use Rattle.wm_request.specs.Requests.{RequestFields}
use Rattle.wm_request.specs.declared.request.Node.{Node}

-- ---- draws

-- the number after another one
unfoldable pub next_number : ℕ → ℕ
next_number number = (number * 6364136223846793005 + 1442695040888963407) % 2 ^ 64

-- a number after so many draws
abbrev pub drawn_on : ℕ → ℕ → ℕ
drawn_on number zero = number
drawn_on number (suc count) = next_number (drawn_on number count)

-- what is drawn of a number: one of 0 to n - 1
unfoldable pub drawn : ℕ → ℕ → ℕ
drawn number n = number / 2 ^ 33 % n

-- the constraints whose signature is drawn
unfoldable pub drawn_constraints : ℕ → Constraints
drawn_constraints number = constraints_of (drawn number 80)

-- the input of a drawn Int under `x`
unfoldable pub drawn_input : ℕ → List DataEntry
drawn_input number = record { key = codes "x"; value = Int (pos (drawn number 1000)) } ∷ []

-- ---- the works of a group

-- the id of a work, by its place in its group, from 1 to 5
unfoldable pub id_of : ℕ → ℕ → ℕ → List ℕ
id_of seed group place = to_be_bytes w128 (seed * 2 ^ 64 + (5 * group + place))

-- an Echo with what is drawn after a number: first its constraints, and then its input
abbrev pub drawn_work : List ℕ → ℕ → RequestFields
drawn_work id number = record (one_time_of id (codes "Echo")) {
  input = drawn_input (drawn_on number 2);
  constraints = drawn_constraints (drawn_on number 1);
}

-- one group in four has a work that waits for a day, and has a tag
unfoldable pub is_late : ℕ → Bool
is_late group = group % 4 == 3

abbrev pub late_tag : List ℕ
late_tag = codes "late"

abbrev pub first_work : ℕ → ℕ → ℕ → RequestFields
first_work seed group number = record (drawn_work (id_of seed group 1) number) {
  initial_delay = if is_late group then 86400000 else 0;
  tags = if is_late group then late_tag ∷ [] else [];
}

-- the class of the work in the second layer
unfoldable pub class_of : ℕ → List ℕ
class_of group =
    if group % 4 == 0 then codes "Sum"
    else (if group % 4 == 1 then codes "FailUntil" else (if group % 4 == 2 then codes "RetryUntil" else codes "Echo"))

-- ---- a group

-- three works with what is drawn after a number, then one, then one
abbrev pub first_layer : ℕ → ℕ → ℕ → List RequestFields
first_layer seed group number =
    first_work seed group number ∷ drawn_work (id_of seed group 2) (drawn_on number 2) ∷ drawn_work (id_of seed group 3) (drawn_on number 4) ∷ []

abbrev pub layers_of : ℕ → ℕ → ℕ → List (List RequestFields)
layers_of seed group number =
    first_layer seed group number ∷ (one_time_of (id_of seed group 4) (class_of group) ∷ []) ∷ (one_time_of (id_of seed group 5) (codes "Echo") ∷ []) ∷ []

-- each of its works is after every work of the layer before
unfoldable pub works_of : ℕ → ℕ → ℕ → List Node
works_of seed group number = (chained no_layer (layers_of seed group number)).works

-- the command that enqueues a group, without a name
abbrev pub group_of : ℕ → ℕ → ℕ → Command
group_of seed group number = Enqueue None (record { works = works_of seed group number })

-- those of the first groups, as many as these; six numbers are drawn for each
abbrev pub groups_of : ℕ → ℕ → List Command
groups_of seed zero = []
groups_of seed (suc group) = groups_of seed group ++ group_of seed group (drawn_on seed (6 * group)) ∷ []

-- ---- all of it

-- the device is connected, charging and idle, and nothing is low
abbrev pub unmetered : ConditionFields
unmetered = record opening_conditions { connected = true; charging = true; idle = true }

-- the same on a network that is metered
abbrev pub metered : ConditionFields
metered = record unmetered { metered = true }

abbrev pub before_groups : List Command
before_groups = Hush ∷ Conditions unmetered ∷ []

abbrev pub after_groups : List Command
after_groups = Settle ∷ Conditions metered ∷ Settle ∷ Cancel (Tag late_tag) ∷ Settle ∷ Moment 30000 ∷ Settle ∷ Summary ∷ []

-- the input that a seed gives, with so many groups
unfoldable pub generated : ℕ → ℕ → List Command
generated seed groups = before_groups ++ (groups_of seed groups ++ after_groups)
