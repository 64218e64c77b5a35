-- What a crash leaves of a store that was loaded.
use Rattle.std.proofs.Common.{◌≡◌, Bool, true, false, List, Option, Some, refl, sym, ap, subst, inl, inr}
use Rattle.std.proofs.lemmas.Option.{same_Some}
use Rattle.std.specs.Prelude.{IfSome}
use Rattle.wm_beginning.specs.Images.{IsHeldAlone, LeavesHeld, UnbegunImages}
use Rattle.wm_beginning.specs.NotBegun.{IsOpeningRefused}
use Rattle.wm_ended.specs.declared.status.Status.{Status}
use Rattle.wm_keeper.specs.Store.{Store, IsLoaded, IsStoreKept}
use Rattle.wm_keeper.specs.declared.row.Row.{Row}
use Rattle.wm_machine.specs.declared.state.Instance.{Instance}
use Rattle.wm_steps.specs.Stored.{LeavesOnly}

-- rows that are those held are told as these
pub held_rows : (held : Option (List Row)) (image : List Row) → held ≡ Some image → IfSome held (λ rows. image ≡ rows)
held_rows held image is = subst (λ told. IfSome told (λ rows. image ≡ rows)) (sym is) refl

pub leaves-held : (held : Option (List Row)) (store : Store) → IsHeldAlone held store → LeavesHeld held store
leaves-held held store alone image left = held_rows held image (alone image left)

-- nothing pending in a store is nothing pending beside its rows
pub leaves-only : (rows : List Row) (store : Store) → IsHeldAlone (Some rows) store → LeavesOnly rows store
leaves-only rows store alone image left = sym (same_Some rows image (alone image left))

-- rows that were loaded are those held, and a load leaves nothing pending
pub loaded-alone : (rows : List Row) (before loaded : Store) → IsLoaded rows before loaded → IsStoreKept before loaded
    → IsHeldAlone before.rows before → IsHeldAlone (Some rows) loaded
loaded-alone rows before loaded are kept alone image left =
    let is : before.rows ≡ Some image = alone image (kept.images image left) in
    ap Some (subst (λ held. IfSome held (λ held. rows ≡ held)) is (are.left image left))

-- ---- where no table was begun

-- what a crash leaves of a store at which nothing was pending
pub unbegun-images : (at_opening : Bool) (ended : Status) (held : Option (List Row)) (instances : List Instance) (before now : Store)
    → IsOpeningRefused false at_opening ended held instances before now → IsHeldAlone before.rows before
    → UnbegunImages at_opening before.rows instances now
unbegun-images true ended held instances before now is alone = λ image left. elim (is.images image left) [
  | inl old ↦ inl (held_rows before.rows image (alone image old))
  | inr would ↦ inr (record { rows = is.rows; told = is.told_left image left; opening = would })
]
unbegun-images false ended held instances before now is alone = λ image left. held_rows before.rows image (alone image (is image left))
