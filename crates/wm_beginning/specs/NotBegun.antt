-- What comes back where no table was begun of a store, and why.
use Rattle.std.specs.Prelude.{◌≡◌, ◌⊎◌, ℕ, Bool, false, List, Option, IfSome, MatchBool}
use Rattle.wm_beginning.specs.Causes.{IsBadStore}
use Rattle.wm_bench.specs.declared.hand.Hand.{Hand}
use Rattle.wm_ended.specs.Tells.{Tells}
use Rattle.wm_ended.specs.declared.not_begun.NotBegun.{NotBegun}
use Rattle.wm_ended.specs.declared.status.Status.{Status}
use Rattle.wm_ended.specs.declared.status.Status.TheVariants as status
use Rattle.wm_faults.specs.Faults.{Failed}
use Rattle.wm_keeper.specs.Store.{Store, told_before, GoesOn, IsAtMost}
use Rattle.wm_keeper.specs.declared.row.Row.{Row}
use Rattle.wm_machine.specs.declared.state.Instance.{Instance}
use Rattle.wm_seating.specs.Hands.{instances_from}
use Rattle.wm_engine.specs.Begins.{AreChangedByOpening}
use Rattle.wm_engine.specs.Images.{WouldOpen}

-- why no table was begun of a store that was to be opened, with the keeper's count of faults before and now; it held these rows, where they are told
abbrev pub EarlyCause : Status → ℕ → ℕ → Option (List Row) → Type 0
EarlyCause status.Memory before now held = Unit {0}
EarlyCause status.KeeperFault before now held = Failed before now
EarlyCause (status.BadStore seq bad_row) before now held = IsBadStore held seq bad_row
EarlyCause _ before now held = ⊥

-- ---- the commit of the opening

-- It was refused: the rows held are sound and change by their opening, the keeper failed or memory was refused, and a crash leaves what it could leave
-- before, or the rows that the opening would have left. The rows held are those that were told, to the end, or where it is told now that a crash may leave
-- any.
pub record IsAtOpening (ended : Status) (held : Option (List Row)) (instances : List Instance) (before now : Store) : Type 0 where
  pub rows : List Row
  pub told : IfSome held (λ kept. rows ≡ kept)
  pub told_left : (image : List Row) → now.images image → IfSome before.rows (λ kept. rows ≡ kept)
  pub changed : AreChangedByOpening rows instances
  pub why : (ended ≡ status.KeeperFault) ⊎ (ended ≡ status.Memory)
  pub images : (image : List Row) → now.images image → before.images image ⊎ WouldOpen rows instances image

-- a crash leaves what it could leave before
abbrev pub LeavesNoMore : Store → Store → Type 0
LeavesNoMore before now = (image : List Row) → now.images image → before.images image

-- it is said where it was refused, so where a table was begun it isn't; and where it isn't said of one that wasn't, nothing was committed
abbrev pub IsOpeningRefused : Bool → Bool → Status → Option (List Row) → List Instance → Store → Store → Type 0
IsOpeningRefused began at_opening ended held instances before now =
    MatchBool began (at_opening ≡ false) (MatchBool at_opening (IsAtOpening ended held instances before now) (LeavesNoMore before now))

-- ---- what comes back

-- No table was begun of a store that was to be opened with these instances, whose keeper told these rows, and for which these workers, this keeper and
-- this sink were given: the rows held are as they were, nothing was written, and the workers come back.
pub record IsNotBegun {K W B : Type 0} (store : K → Store) (instances : List Instance) (hands : List (Hand B)) (held : Option (List Row)) (keeper : K)
    (sink : W) (back : NotBegun K W B) : Type 0 where
  pub cause : EarlyCause back.status (store keeper).faults (store back.keeper).faults held
  pub at_opening : IsOpeningRefused false back.at_opening back.status held instances (store keeper) (store back.keeper)
  pub rows : IsAtMost (store keeper).rows (store back.keeper).rows
  pub goes_on : GoesOn (store keeper) (store back.keeper)
  pub sink_is : back.sink ≡ sink
  pub hands_back : back.hands.items ≡ hands

-- with which statuses nothing is begun
abbrev pub IsNotBegunStatus : Status → Type 0
IsNotBegunStatus status.Done = ⊥
IsNotBegunStatus status.SinkFault = ⊥
IsNotBegunStatus _ = Unit {0}

-- A program that was given these workers, this keeper and this sink left them so: the rows held are as they were, nothing was written, and the workers
-- come back. It is said whether the commit of an opening was refused.
pub record IsUntouched {K W B : Type 0} (tells : Tells K W B) (hands : List (Hand B)) (keeper : K) (sink : W) (back : NotBegun K W B) : Type 0 where
  pub rows : IsAtMost (tells.store keeper).rows (tells.store back.keeper).rows
  pub sink_is : back.sink ≡ sink
  pub hands_back : back.hands.items ≡ hands
  pub at_opening : IsOpeningRefused false back.at_opening back.status (told_before (tells.store keeper).rows (tells.store back.keeper).rows)
      (instances_from tells.kind_of 0 hands) (tells.store keeper) (tells.store back.keeper)
