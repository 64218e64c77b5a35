-- What a crash may leave where no table was begun.
use Rattle.std.specs.Prelude.{◌≡◌, ◌⊎◌, Bool, List, Option, Some, IfSome, MatchBool}
use Rattle.wm_keeper.specs.Store.{Store}
use Rattle.wm_keeper.specs.declared.row.Row.{Row}
use Rattle.wm_machine.specs.declared.state.Instance.{Instance}
use Rattle.wm_engine.specs.Images.{WouldOpen}

-- nothing is pending: a crash leaves just the rows held
abbrev pub IsHeldAlone : Option (List Row) → Store → Type 0
IsHeldAlone held store = (image : List Row) → store.images image → held ≡ Some image

-- a crash leaves the rows held, where they were told
abbrev pub LeavesHeld : Option (List Row) → Store → Type 0
LeavesHeld held store = (image : List Row) → store.images image → IfSome held (λ rows. image ≡ rows)

-- the rows that the opening of the rows held, which was being committed, would have left; both open to the same state
pub record WouldOpenHeld (held : Option (List Row)) (instances : List Instance) (image : List Row) : Type 0 where
  pub rows : List Row
  pub told : IfSome held (λ kept. rows ≡ kept)
  pub opening : WouldOpen rows instances image

-- a crash leaves the rows held, or those that their opening would have left
abbrev pub LeavesOpening : Option (List Row) → List Instance → Store → Type 0
LeavesOpening held instances store =
    (image : List Row) → store.images image → IfSome held (λ rows. image ≡ rows) ⊎ WouldOpenHeld held instances image

-- what a crash leaves of a run whose table wasn't begun: the rows held, unless the opening was being committed
abbrev pub UnbegunImages : Bool → Option (List Row) → List Instance → Store → Type 0
UnbegunImages at_opening held instances store = MatchBool at_opening (LeavesOpening held instances store) (LeavesHeld held store)
