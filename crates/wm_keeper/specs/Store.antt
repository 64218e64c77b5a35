-- What a keeper shows to contracts, and what its calls make of that. A keeper may stop telling in a call, and then it is lost, for good: what is
-- told after a call is nothing, or what the call says of what was told before.
use Rattle.std.specs.Prelude.{◌≡◌, ◌⊎◌, ℕ, Bool, List, Option, None, Some, IfSome, IsSome, IsTrue, option_map}
use Rattle.wm_keeper.specs.Keeper.{changed}
use Rattle.wm_keeper.specs.declared.row.Row.{Row}
use Rattle.wm_keeper.specs.declared.row.Change.{Change}

-- The rows that it holds, in ascending number, where it tells them; the lists of rows of which it tells that a crash now may leave them, none
-- where it doesn't tell that; the name that it was last loaded with, where it tells it; how many faults it has met; and whether it is lost, which
-- lets it stop telling.
pub record Store : Type 1 where
  pub rows : Option (List Row)
  pub images : List Row → Type 0
  pub name : Option (List ℕ)
  pub faults : ℕ
  pub is_lost : Bool

-- what is told now is this, where it is told at all
abbrev pub IsAtMost : {T : Type 0} → Option T → Option T → Type 0
IsAtMost this now = IfSome now (λ told. this ≡ Some told)

-- the rows with these changes, where they were told
abbrev pub changed_rows : List Change → Store → Option (List Row)
changed_rows changes store = option_map (changed changes) store.rows

-- it goes on telling: where rows were told, they are told now or it is lost, and what is lost stays so
pub record KeepsTelling (before now : Store) : Type 0 where
  pub rows : IsSome before.rows → IsSome now.rows ⊎ IsTrue now.is_lost
  pub lost : IsTrue before.is_lost → IsTrue now.is_lost

-- what is told now goes on from what was told before: rows only where rows were told, an image only where it or rows were, and it goes on telling
pub record GoesOn (before now : Store) : Type 0 where
  pub rows : IfSome now.rows (λ told. IsSome before.rows)
  pub images : (image : List Row) → now.images image → before.images image ⊎ IsSome before.rows
  pub keeps : KeepsTelling before now

-- and under no other name
pub record TellsOn (before now : Store) : Type 0 where
  pub goes_on : GoesOn before now
  pub name : IsAtMost before.name now.name

-- the rows told before, where rows are told now too
abbrev pub told_before : Option (List Row) → Option (List Row) → Option (List Row)
told_before before (Some told) = before
told_before before None = None

-- these rows were loaded: they are those held, where rows are told after it, and where it is told that a crash may leave any
pub record IsLoaded (rows : List Row) (before now : Store) : Type 0 where
  pub told : IfSome now.rows (λ held. rows ≡ held)
  pub left : (image : List Row) → now.images image → IfSome before.rows (λ held. rows ≡ held)

-- the rows told are those of before, and a crash leaves nothing that it couldn't leave before
pub record IsStoreKept (before now : Store) : Type 0 where
  pub rows : IsAtMost before.rows now.rows
  pub images : (image : List Row) → now.images image → before.images image

-- a commit of these changes was made: the rows told are those with the changes, and a crash leaves just these
pub record IsCommitted (changes : List Change) (before now : Store) : Type 0 where
  pub rows : IsAtMost (changed_rows changes before) now.rows
  pub images : (image : List Row) → now.images image → changed_rows changes before ≡ Some image

-- it was refused: the rows told are those of before, and a crash leaves what it could leave before, or the rows with the changes
pub record IsNotCommitted (changes : List Change) (before now : Store) : Type 0 where
  pub rows : IsAtMost before.rows now.rows
  pub images : (image : List Row) → now.images image → before.images image ⊎ (changed_rows changes before ≡ Some image)

-- nothing is pending: a crash leaves just the rows held
abbrev pub IsSettled : Store → Type 0
IsSettled store = (image : List Row) → store.images image → store.rows ≡ Some image
