-- The works of one unique name, and how a name lets them go. After the guide's page "Managing work" (unique work); what stays of works that
-- are let go is this project's own choice.
use Rattle.std.specs.Prelude.{◌≡◌, ◌⊎◌, ℕ, ◌≤◌, ◌&&◌, Bool, true, false, not, List, length, map, filter, if◌then◌else◌, Option, Some, None}
use Rattle.std.specs.List.{AllByRecursion, list_any}
use Rattle.std.specs.Str.{bytes_eq}
use Rattle.wm_collections.specs.Lists.{is_among}
use Rattle.wm_machine.specs.Closed.{is_open, IsDescendant}
use Rattle.wm_machine.specs.Pruned.{removable}
use Rattle.wm_machine.specs.declared.record.Record.{Record}

-- ---- the group

-- whether a work has this unique name
abbrev pub is_name : List ℕ → Option (List ℕ) → Bool
is_name name None = false
is_name name (Some own) = bytes_eq own name

-- the records that have it, its members
abbrev pub members_of : List Record → List ℕ → List Record
members_of works name = filter (λ work. is_name name work.name) works

-- whether a work is a prerequisite of one of these
abbrev pub is_prior_of : List Record → Record → Bool
is_prior_of members work = list_any (λ member. is_among member.prior work.seq) members

-- the leaves of a group: the members that aren't a prerequisite of a member
abbrev pub leaves_of : List Record → List Record
leaves_of members = filter (λ work. not (is_prior_of members work)) members

-- the numbers of records
abbrev pub numbers_in : List Record → List ℕ
numbers_in works = map (λ work. work.seq) works

-- one work alone, or works that are all one-time
abbrev pub AreAloneOrOneTime : List Record → Type 0
AreAloneOrOneTime works = (length works ≤ 1) ⊎ AllByRecursion (λ work. work.request.period ≡ None) works

-- a record that has nothing to do with a name: it hasn't the name, and doesn't come after an unfinished work that has it
pub record IsApartFrom (works : List Record) (name : List ℕ) (work : Record) : Type 0 where
  pub not_named : is_name name work.name ≡ false
  pub not_after : AllByRecursion (λ member. is_open member.phase ≡ true → IsDescendant member.seq works work.seq → ⊥) (members_of works name)

-- ---- letting it go

-- whether a record goes, where those of these numbers are let go: it is one of them, and removable
abbrev pub is_dropped : List ℕ → List Record → Record → Bool
is_dropped numbers works work = is_among numbers work.seq && removable works work

-- a record, without its name where it has one of these numbers
abbrev pub unnamed : List ℕ → Record → Record
unnamed numbers work = if is_among numbers work.seq then record work { name = None } else work

-- the records, where those of these numbers are let go: those that are removable are removed, and the name is taken from the others
abbrev pub with_let_go : List ℕ → List Record → List Record
with_let_go numbers works = map (unnamed numbers) (filter (λ work. not (is_dropped numbers works work)) works)
