-- What is kept beside the records of the rows so far, by which the next one is compared with them.
use Rattle.std.specs.Prelude.{◌≡◌, ℕ, List, String}
use Rattle.std.specs.Global.{Global}
use Rattle.std.specs.BTreeSet.{BTreeSet, contains, contains_text}
use Rattle.std.specs.Cmp.Lexicographic.{slice_cmp}
use Rattle.std.specs.Ordering.{nat_cmp}
use Rattle.wm_collections.specs.Lists.{AllLater}
use Rattle.wm_machine.specs.Valid.{IsBefore}
use Rattle.wm_machine.specs.declared.record.Record.{Record}
use Rattle.wm_rows.specs.Sound.{has_id, has_name, has_periodic_name}

-- the records stand in order, and these are their ids, their names and the names of those that are periodic
pub record IsKept (works : List Record) (ids : BTreeSet (List ℕ)) (names periodic : BTreeSet (String Global)) : Type 0 where
  pub in_order : AllLater IsBefore works
  pub ids_are : (id : List ℕ) → contains (slice_cmp nat_cmp) ids id ≡ has_id works id
  pub names_are : (name : List ℕ) → contains_text names name ≡ has_name works name
  pub periodic_are : (name : List ℕ) → contains_text periodic name ≡ has_periodic_name works name
