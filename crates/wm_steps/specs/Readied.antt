-- The entries of works that are ready, and how they follow a step.
use Rattle.std.specs.Prelude.{◌≡◌, ℕ, ◌+◌, ◌&&◌, ◌||◌, ◌==◌, Bool, true, false, not, List, [], ◌∷◌, slice_get, option_and_then, if◌then◌else◌, Option, None, Some, IsSomeAnd, MatchOption}
use Rattle.std.specs.List.{list_all, list_any, position_or_len, AllByRecursion}
use Rattle.std.specs.Option.{option_map_or}
use Rattle.std.specs.Str.{bytes_eq}
use Rattle.wm_collections.specs.Lists.{is_among}
use Rattle.wm_conditions.specs.Signatures.{signature}
use Rattle.wm_graph.specs.Marks.{unmet}
use Rattle.wm_graph.specs.Nodes.{NodeFields}
use Rattle.wm_machine.specs.Due.{due_of}
use Rattle.wm_machine.specs.First.{first_of, has_room, is_waiting}
use Rattle.wm_machine.specs.Input.{work_numbered}
use Rattle.wm_machine.specs.declared.record.Record.{Record}
use Rattle.wm_machine.specs.declared.state.Instance.{Instance}
use Rattle.wm_machine.specs.declared.state.State.{State}
use Rattle.wm_ready.specs.Entries.{has, is_same, Entry}
use Rattle.wm_changes.specs.Readiness.{is_ready_in}
use Rattle.wm_changes.specs.declared.change.Replacement.{Replacement}
use Rattle.wm_changes.specs.declared.change.StepChange.{StepChange}

-- ---- classes by numbers

-- the number of a class: its place among these, and the number after them where it isn't one of them
abbrev pub class_number : List (List ℕ) → List ℕ → ℕ
class_number names class = position_or_len (λ name. bytes_eq name class) names

-- each instance is of one of these classes
abbrev pub AreNamed : List (List ℕ) → List Instance → Type 0
AreNamed names instances = AllByRecursion (λ instance. list_any (λ name. bytes_eq name instance.class) names ≡ true) instances

-- the numbers, from one on, of those of these classes whose works have to wait for an instance
abbrev pub busy_from : ℕ → List Instance → List (List ℕ) → List ℕ
busy_from number instances [] = []
busy_from number instances (name ∷ names) =
    if has_room instances name then busy_from (number + 1) instances names else number ∷ busy_from (number + 1) instances names

-- these are busy: the classes whose works have to wait for an instance
abbrev pub AreBusy : List (List ℕ) → List Instance → List ℕ → Type 0
AreBusy names instances busy = (class : List ℕ) → is_among busy (class_number names class) ≡ not (has_room instances class)

-- ---- the entries of works

-- the entry of a work: when it is due, its number, and the numbers of its constraints and of its class
abbrev pub entry_of : List (List ℕ) → Record → Entry
entry_of names work = record {
  due = due_of work;
  seq = work.seq;
  sig = signature work.request.constraints;
  class = class_number names work.request.class;
}

-- whether an entry is that of a work which is ready among these
abbrev pub is_entry_of : List (List ℕ) → List Record → Entry → Record → Bool
is_entry_of names works entry work = is_ready_in works work && is_same entry (entry_of names work)

-- whether it is that of one of these works which is ready
abbrev pub is_wanted : List (List ℕ) → List Record → Entry → Bool
is_wanted names works entry = list_any (is_entry_of names works entry) works

-- the entries are those of the works that are ready
abbrev pub AreReady : List (List ℕ) → List Record → List Entry → Type 0
AreReady names works entries = (entry : Entry) → has entries entry ≡ is_wanted names works entry

-- ---- before the rows are committed

-- whether an entry is that of a work which waits
abbrev pub is_waiting_as : List (List ℕ) → Entry → Record → Bool
is_waiting_as names entry work = is_waiting work.phase && is_same entry (entry_of names work)

-- whether it comes by a change: a record that waits is put in a place, or placed
abbrev pub comes : List (List ℕ) → StepChange → Entry → Bool
comes names change entry =
    list_any (λ told. is_waiting_as names entry told.work) change.told
    || (list_any (λ replaced. is_waiting_as names entry replaced.work) change.replaced
    || list_any (is_waiting_as names entry) change.placed)

-- ---- after it

-- whether an entry isn't that of a work which waits, or is that of another work, where there is one
abbrev pub is_left : List (List ℕ) → Record → Option Record → Entry → Bool
is_left names work other entry = not (is_waiting_as names entry work) || option_map_or (λ (new : Record). is_same entry (entry_of names new)) other false

-- a work, where it waits and its node among these has no prerequisite that isn't marked
abbrev pub if_free : List NodeFields → Record → Option Record
if_free nodes work = if is_waiting work.phase && unmet nodes work.seq == 0 then Some work else None

-- whether an entry is left where one record gives way to another, by these nodes: it is neither's, or that of the latter, which is free
abbrev pub is_settled : List (List ℕ) → List NodeFields → Option Record → Option Record → Entry → Bool
is_settled names nodes old new entry =
    option_map_or (λ (work : Record). is_left names work (option_and_then (if_free nodes) new) entry) old true
    && option_map_or (λ (work : Record). is_left names work (if_free nodes work) entry) new true

-- and where records give way to those that are put in their places
abbrev pub are_replaced : List (List ℕ) → List NodeFields → List Record → List Replacement → Entry → Bool
are_replaced names nodes works replaced entry = list_all (λ r. is_settled names nodes (slice_get works r.index) (Some r.work) entry) replaced

-- whether it is left by a change, by the nodes after that
abbrev pub is_left_by : List (List ℕ) → List NodeFields → List Record → StepChange → Entry → Bool
is_left_by names nodes works change entry =
    are_replaced names nodes works change.told entry
    && (are_replaced names nodes works change.replaced entry
    && (list_all (λ number. is_settled names nodes (work_numbered number works) None entry) change.removed
    && list_all (λ work. is_settled names nodes None (Some work) entry) change.placed))

-- ---- where the rows can't be committed

-- whether an entry is left where records that were put in the places of others give way to those
abbrev pub are_put_back : List (List ℕ) → List NodeFields → List Record → List Replacement → Entry → Bool
are_put_back names nodes works replaced entry = list_all (λ r. is_settled names nodes (Some r.work) (slice_get works r.index) entry) replaced

-- whether it is left where a change is undone, by the nodes before it
abbrev pub is_left_undone : List (List ℕ) → List NodeFields → List Record → StepChange → Entry → Bool
is_left_undone names nodes works change entry =
    are_put_back names nodes works change.told entry
    && (are_put_back names nodes works change.replaced entry
    && list_all (λ work. is_settled names nodes (Some work) None entry) change.placed)

-- ---- what a loop comes to

-- entries that pass a test are there too
abbrev pub ArePut : (Entry → Bool) → List Entry → List Entry → Type 0
ArePut test old new = (entry : Entry) → has new entry ≡ (has old entry || test entry)

-- or some of them
pub record IsPutSome (test : Entry → Bool) (old new : List Entry) : Type 0 where
  pub still : (entry : Entry) → has old entry ≡ true → has new entry ≡ true
  pub others : (entry : Entry) → test entry ≡ false → has new entry ≡ has old entry

-- only entries that pass a test are left
abbrev pub AreLeft : (Entry → Bool) → List Entry → List Entry → Type 0
AreLeft test old new = (entry : Entry) → has new entry ≡ (has old entry && test entry)

-- ---- the first

-- a number is that of the first work, and none where there is none
abbrev pub IsFirstOf : State → Option ℕ → Type 0
IsFirstOf s result = MatchOption result (first_of s ≡ None) (λ number. IsSomeAnd (first_of s) (λ work. work.seq ≡ number))
