-- How far the works of unique names come before others of their names.
use Rattle.std.specs.Prelude.{◌≡◌, ℕ, ◌==◌, ◌≤◌, ◌&&◌, ◌||◌, Bool, false, not, List, filter, is_none, is_some, length, nat_lt, slice_get, if◌then◌else◌}
use Rattle.std.specs.BTreeMap.{get_by_text}
use Rattle.std.specs.List.{list_any, AllByRecursion}
use Rattle.std.specs.Option.{option_map_or, unwrap_or}
use Rattle.std.specs.Str.{bytes_eq}
use Rattle.wm_machine.specs.Group.{leaves_of, members_of, numbers_in}
use Rattle.wm_machine.specs.declared.record.Record.{Record}
use Rattle.wm_machine.specs.declared.state.State.{State}
use Rattle.wm_changes.specs.declared.change.Replacement.{Replacement}
use Rattle.wm_changes.specs.declared.change.StepChange.{StepChange}
use Rattle.wm_steps.specs.declared.covers.Covers.{Covers}

-- ---- marks

-- the mark of a name, which is 0 where it has none
abbrev pub mark_of : Covers → List ℕ → ℕ
mark_of covers name = unwrap_or (get_by_text covers.marks name) 0

-- a name has this mark, and each other the one that it had
abbrev pub IsMarked : List ℕ → ℕ → Covers → Covers → Type 0
IsMarked name mark old new = (other : List ℕ) → mark_of new other ≡ (if bytes_eq name other then mark else mark_of old other)

-- a number may be the mark of a name: no leaf of its group has a smaller one, nor has a work to come
pub record IsMark (s : State) (name : List ℕ) (mark : ℕ) : Type 0 where
  pub leaves : AllByRecursion (λ leaf. mark ≤ leaf.seq) (leaves_of (members_of s.works name))
  pub next : mark ≤ s.next

abbrev pub AreCovered : State → Covers → Type 0
AreCovered s covers = (name : List ℕ) → IsMark s name (mark_of covers name)

-- ---- the end of a group

-- the members from a number on
abbrev pub members_from : ℕ → List Record → List Record
members_from mark members = filter (λ member. not (nat_lt member.seq mark)) members

-- the numbers are those of the members from one on, which have the leaves of all
pub record AreLast (members : List Record) (numbers : List ℕ) : Type 0 where
  pub mark : ℕ
  pub are : numbers ≡ numbers_in (members_from mark members)
  pub leaves : leaves_of (members_from mark members) ≡ leaves_of members

-- ---- how marks follow a step

-- whether a record hasn't the name of that whose place it takes
abbrev pub is_unnamed : List Record → Replacement → Bool
is_unnamed works replaced = option_map_or (λ (old : Record). is_some old.name && is_none replaced.work.name) (slice_get works replaced.index) false

-- whether a change takes a work from its name
abbrev pub takes_members : List Record → StepChange → Bool
takes_members works change = not (length change.removed == 0) || list_any (is_unnamed works) change.replaced

-- the mark that a name has then
abbrev pub mark_after : Bool → ℕ → ℕ
mark_after takes mark = if takes then 0 else mark
