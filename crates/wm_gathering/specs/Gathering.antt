-- What a keeper that gathers holds and shows, and what it is to merge changes with those that wait.
use Rattle.std.specs.Prelude.{◌≡◌, List}
use Rattle.wm_keeper.specs.Keeper.{Ascends, changed}
use Rattle.wm_keeper.specs.Store.{Store, changed_rows}
use Rattle.wm_keeper.specs.declared.row.Change.{Change}
use Rattle.wm_keeper.specs.declared.row.Row.{Row}

-- the keeper that it gathers for, and the changes that wait for a flush
pub record GatheringState (K : Type 0) : Type 0 where
  pub inner : K
  pub waiting : List Change

-- A keeper with these changes waiting, over one that shows this. It tells the rows with the changes made. It doesn't tell what a crash may leave:
-- that has none of what waits, so no commit could be told by it.
abbrev pub gathered : List Change → Store → Store
gathered waiting inner = record { rows = changed_rows waiting inner; images = λ image. ⊥; name = inner.name; faults = inner.faults; is_lost = inner.is_lost }

-- what it shows, over the inner keeper's
abbrev pub store_of : {K : Type 0} → (K → Store) → GatheringState K → Store
store_of store gathering = gathered gathering.waiting (store gathering.inner)

-- to make these is to make first those that waited, and then the others, one after another
abbrev pub AreMerged : List Change → List Change → List Change → Type 0
AreMerged changes waited these = (rows : List Row) → Ascends rows → changed these rows ≡ changed changes (changed waited rows)
