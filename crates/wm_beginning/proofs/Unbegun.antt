-- Why a program ends whose script was read: its table was begun, or wasn't; and the same over rows that were loaded.
use Rattle.std.proofs.Common.{◌≡◌, ◌⊎◌, ℕ, ℤ, Bool, true, false, List, Option, Some, None, IfSome, IsSome, Ok, Err, refl, sym, ◌∙◌, ap, subst, inl, inr}
use Rattle.wm_beginning.specs.Caused.{IsCausedOnceRead}
use Rattle.wm_beginning.specs.Causes.{IsBadStore, IsOpeningStatus, StoreCause}
use Rattle.wm_beginning.specs.Loading.{HasLoaded}
use Rattle.wm_beginning.specs.NotBegun.{EarlyCause, IsNotBegun, IsOpeningRefused}
use Rattle.wm_bench.specs.declared.hand.Hand.{Hand}
use Rattle.wm_ended.specs.Causes.{status_by_begin, status_by_keeper}
use Rattle.wm_ended.specs.Ended.{IsSessionStatus}
use Rattle.wm_ended.specs.Tells.{Tells}
use Rattle.wm_ended.specs.declared.not_begun.NotBegun.{NotBegun}
use Rattle.wm_ended.specs.declared.status.Status.{Status}
use Rattle.wm_ended.specs.declared.status.Status.TheVariants as status
use Rattle.wm_faults.specs.Faults.{Failed}
use Rattle.wm_keeper.proofs.Stores.{GoesOn-loaded, GoesOn-then, IsAtMost-then}
use Rattle.wm_keeper.specs.Keeper.{KeepCause}
use Rattle.wm_keeper.specs.Store.{Store, told_before, GoesOn, IsAtMost, IsLoaded}
use Rattle.wm_keeper.specs.declared.keeper.KeepFault.{KeepFault}
use Rattle.wm_keeper.specs.declared.keeper.KeepFault.TheVariants as keep
use Rattle.wm_keeper.specs.declared.row.Row.{Row}
use Rattle.wm_machine.specs.declared.state.Instance.{Instance}
use Rattle.wm_rows.specs.Sound.{checked, AreSound}
use Rattle.wm_rows.specs.declared.fault.RowFault.{RowFault}
use Rattle.wm_engine.specs.Begins.{row_fault, BeginCause, IsBeginFault}
use Rattle.wm_engine.specs.declared.trouble.BeginFault.{BeginFault}
use Rattle.wm_engine.specs.declared.trouble.BeginFault.TheVariants as begin

-- ---- of a table that was begun

session_opening : (ended : Status) → IsSessionStatus ended → IsOpeningStatus ended
session_opening status.Done session = tt
session_opening status.SinkFault session = tt
session_opening status.KeeperFault session = tt
session_opening status.Memory session = tt
session_opening status.Usage session = absurd session
session_opening status.SourceFault session = absurd session
session_opening (status.ScriptTooLong limit) session = absurd session
session_opening (status.BadStore seq bad_row) session = absurd session

session_store : (ended : Status) (held : Option (List Row)) → IsSessionStatus ended → StoreCause ended held
session_store status.Done held session = tt
session_store status.SinkFault held session = tt
session_store status.KeeperFault held session = tt
session_store status.Memory held session = tt
session_store status.Usage held session = tt
session_store status.SourceFault held session = tt
session_store (status.ScriptTooLong limit) held session = tt
session_store (status.BadStore seq bad_row) held session = absurd session

-- sound rows have no first fault
pub none_refused : (rows : List Row) (fault : RowFault) → AreSound rows → checked rows ≡ Err fault → ⊥
none_refused rows fault sound refused = let clash : Ok sound.0 ≡ Err fault = sym sound.1 ∙ refused in absurd (cc)

-- one that was begun over these rows, which are sound
pub caused-session : {K W B : Type 0} (tells : Tells K W B) (rows : List Row) (keeper kept : K) (sink given : W) (ended : Status)
    → IsSessionStatus ended → AreSound rows
    → (ended ≡ status.KeeperFault → Failed (tells.store keeper).faults (tells.store kept).faults)
    → (ended ≡ status.SinkFault → Failed (tells.sink_faults sink) (tells.sink_faults given))
    → IsCausedOnceRead tells (Some rows) keeper kept sink given ended
caused-session tells rows keeper kept sink given ended session sound keeper_fault sink_fault = record {
  opened = session_opening ended session;
  keeper_fault = keeper_fault;
  sink_fault = sink_fault;
  bad_store = session_store ended (Some rows) session;
  unsound = λ all seq bad_row stored refused no_fault.
      let same : rows ≡ all = cc in
      absurd (none_refused all (row_fault seq bad_row) (subst AreSound same sound) refused);
}

-- ---- of one that wasn't

pub EarlyCause-keeper : (T : Type 0) (fault : KeepFault) (before now : ℕ) (held : Option (List Row)) → KeepCause {T = T} (Err fault) before now
    → EarlyCause (status_by_keeper fault) before now held
EarlyCause-keeper T keep.Failed before now held cause = cause
EarlyCause-keeper T keep.Memory before now held cause = tt

pub EarlyCause-begin : {K : Type 0} (store : K → Store) (keeper : K) (rows : List Row) (refused : K × BeginFault) → IsBeginFault rows refused.1
    → BeginCause store keeper (Err refused)
    → EarlyCause (status_by_begin refused.1) (store keeper).faults (store refused.0).faults (Some rows)
EarlyCause-begin store keeper rows (now, begin.Memory) is cause = tt
EarlyCause-begin store keeper rows (now, begin.CommitMemory) is cause = tt
EarlyCause-begin store keeper rows (now, begin.KeeperFault) is cause = cause
EarlyCause-begin store keeper rows (now, begin.Bad seq bad_row) is cause = record { rows = rows; told = refl; refused = is }

-- one fault is of one number and of one kind
same_fault : (seq other : ℤ) (bad_row bad_other : Bool) → row_fault seq bad_row ≡ row_fault other bad_other
    → status.BadStore seq bad_row ≡ status.BadStore other bad_other
same_fault seq other true true same = let number : seq ≡ other = cc in ap (λ n. status.BadStore n true) number
same_fault seq other false false same = let number : seq ≡ other = cc in ap (λ n. status.BadStore n false) number
same_fault seq other true false same = absurd cc
same_fault seq other false true same = absurd cc

-- the first fault of rows that were told is the one that is answered
bad_told : (held : Option (List Row)) (rows : List Row) (seq other : ℤ) (bad_row bad_other : Bool) → IsBadStore held seq bad_row → held ≡ Some rows
    → checked rows ≡ Err (row_fault other bad_other) → status.BadStore seq bad_row ≡ status.BadStore other bad_other
bad_told None rows seq other bad_row bad_other bad stored refused = absurd cc
bad_told (Some kept) rows seq other bad_row bad_other bad stored refused =
    let all : bad.rows ≡ rows = let same : kept ≡ rows = cc in bad.told ∙ same in
    let both : Err (row_fault seq bad_row) ≡ checked rows = sym bad.refused ∙ ap checked all in
    let faults : row_fault seq bad_row ≡ row_fault other bad_other = let same = both ∙ refused in cc in
    same_fault seq other bad_row bad_other faults

pub caused-early : {K W B : Type 0} (tells : Tells K W B) (held : Option (List Row)) (keeper kept : K) (sink given : W) (ended : Status)
    → EarlyCause ended (tells.store keeper).faults (tells.store kept).faults held → IsCausedOnceRead tells held keeper kept sink given ended
caused-early tells held keeper kept sink given status.Memory cause = record {
  opened = tt;
  keeper_fault = λ is. absurd (cc);
  sink_fault = λ is. absurd (cc);
  bad_store = tt;
  unsound = λ rows seq bad_row stored refused no_fault. inr refl;
}
caused-early tells held keeper kept sink given status.KeeperFault cause = record {
  opened = tt;
  keeper_fault = λ is. cause;
  sink_fault = λ is. absurd (cc);
  bad_store = tt;
  unsound = λ rows seq bad_row stored refused no_fault. absurd (no_fault cause);
}
caused-early tells held keeper kept sink given (status.BadStore seq bad_row) cause = record {
  opened = tt;
  keeper_fault = λ is. absurd (cc);
  sink_fault = λ is. absurd (cc);
  bad_store = cause;
  unsound = λ rows other bad_other stored refused no_fault. inl (bad_told held rows seq other bad_row bad_other cause stored refused);
}
caused-early tells held keeper kept sink given status.Done cause = absurd cause
caused-early tells held keeper kept sink given status.SinkFault cause = absurd cause
caused-early tells held keeper kept sink given status.Usage cause = absurd cause
caused-early tells held keeper kept sink given status.SourceFault cause = absurd cause
caused-early tells held keeper kept sink given (status.ScriptTooLong limit) cause = absurd cause

-- it isn't done
pub early-done : (ended : Status) (before now : ℕ) (held : Option (List Row)) → EarlyCause ended before now held → ended ≡ status.Done → ⊥
early-done ended before now held cause done = subst (λ w. EarlyCause w before now held) done cause

-- ---- over rows that were loaded

pub store_told : (ended : Status) (held : Option (List Row)) (rows : List Row) → IfSome held (λ kept. rows ≡ kept) → StoreCause ended (Some rows)
    → StoreCause ended held
store_told (status.BadStore seq bad_row) held rows told bad =
    record { rows = bad.rows; told = subst (λ all. IfSome held (λ kept. all ≡ kept)) (sym bad.told) told; refused = bad.refused }
store_told status.Done held rows told bad = tt
store_told status.SinkFault held rows told bad = tt
store_told status.KeeperFault held rows told bad = tt
store_told status.Memory held rows told bad = tt
store_told status.Usage held rows told bad = tt
store_told status.SourceFault held rows told bad = tt
store_told (status.ScriptTooLong limit) held rows told bad = tt

-- rows that were loaded are those told before, where rows are told to the end
pub loaded_told : (before loaded now : Option (List Row)) (rows : List Row) → IfSome loaded (λ held. rows ≡ held) → IsAtMost before loaded
    → IfSome now (λ told. IsSome loaded) → IfSome (told_before before now) (λ kept. rows ≡ kept)
loaded_told before loaded None rows is same goes_on = tt
loaded_told None loaded (Some told) rows is same goes_on = tt
loaded_told (Some kept) (Some held) (Some told) rows is same goes_on = let both : kept ≡ held = cc in is ∙ sym both
loaded_told (Some kept) None (Some told) rows is same goes_on = absurd cc

-- and where it is told that a crash may leave any
loaded_left : (before loaded : Store) (rows image : List Row) → IsLoaded rows before loaded → IsAtMost before.rows loaded.rows
    → loaded.images image ⊎ IsSome loaded.rows → IfSome before.rows (λ kept. rows ≡ kept)
loaded_left before loaded rows image is same left = elim left [
  | inl old ↦ is.left image old
  | inr told ↦ told_then before.rows loaded.rows is.told same told
]
  where
    told_then : (before loaded : Option (List Row)) → IfSome loaded (λ held. rows ≡ held) → IsAtMost before loaded → IsSome loaded
        → IfSome before (λ kept. rows ≡ kept)
    told_then None loaded is same told = tt
    told_then (Some kept) (Some held) is same told = let both : kept ≡ held = cc in is ∙ sym both
    told_then (Some kept) None is same told = absurd cc

-- where a crash may leave any rows, those loaded are those told before
pub left_told : {K : Type 0} (store : K → Store) (name : List ℕ) (rows image : List Row) (keeper loaded now : K) → HasLoaded name rows (store keeper) (store loaded)
    → GoesOn (store loaded) (store now) → (store now).images image → IfSome (store keeper).rows (λ kept. rows ≡ kept)
left_told store name rows image keeper loaded now is goes_on left =
    loaded_left (store keeper) (store loaded) rows image is.rows_are is.kept.rows (goes_on.images image left)

early_told : (ended : Status) (before now : ℕ) (held : Option (List Row)) (rows : List Row) → IfSome held (λ kept. rows ≡ kept)
    → EarlyCause ended before now (Some rows) → EarlyCause ended before now held
early_told status.Memory before now held rows told cause = tt
early_told status.KeeperFault before now held rows told cause = cause
early_told (status.BadStore seq bad_row) before now held rows told cause = store_told (status.BadStore seq bad_row) held rows told cause
early_told status.Done before now held rows told cause = cause
early_told status.SinkFault before now held rows told cause = cause
early_told status.Usage before now held rows told cause = cause
early_told status.SourceFault before now held rows told cause = cause
early_told (status.ScriptTooLong limit) before now held rows told cause = cause

module _ {K : Type 0} (store : K → Store) (name : List ℕ) (rows : List Row) (keeper loaded now : K) (load : HasLoaded name rows (store keeper) (store loaded))
    (goes_on : GoesOn (store loaded) (store now)) where
  -- the rows that were loaded are those told before, where rows are told to the end
  pub told_to_end : IfSome (told_before (store keeper).rows (store now).rows) (λ kept. rows ≡ kept)
  told_to_end = loaded_told (store keeper).rows (store loaded).rows (store now).rows rows load.rows_are.told load.kept.rows goes_on.rows

  pub goes_on-loaded : GoesOn (store keeper) (store now)
  goes_on-loaded = GoesOn-then (store keeper) (store loaded) (store now) (GoesOn-loaded (store keeper) (store loaded) load.kept load.telling) goes_on

  refused-loaded : (at_opening : Bool) (ended : Status) (instances : List Instance)
      → IsOpeningRefused false at_opening ended (Some rows) instances (store loaded) (store now)
      → IsOpeningRefused false at_opening ended (told_before (store keeper).rows (store now).rows) instances (store keeper) (store now)
  refused-loaded true ended instances is = record {
    rows = is.rows;
    told = subst (λ all. IfSome (told_before (store keeper).rows (store now).rows) (λ kept. all ≡ kept)) (sym is.told) told_to_end;
    told_left = λ image left.
        subst (λ all. IfSome (store keeper).rows (λ kept. all ≡ kept)) (sym is.told) (left_told store name rows image keeper loaded now load goes_on left);
    changed = is.changed;
    why = is.why;
    images = λ image left. elim (is.images image left) [ inl old ↦ inl (load.kept.images image old) | inr would ↦ inr would ];
  }
  refused-loaded false ended instances is = λ image left. load.kept.images image (is image left)

  pub opening-loaded : (began at_opening : Bool) (ended : Status) (instances : List Instance)
      → IsOpeningRefused began at_opening ended (Some rows) instances (store loaded) (store now)
      → IsOpeningRefused began at_opening ended (told_before (store keeper).rows (store now).rows) instances (store keeper) (store now)
  opening-loaded true at_opening ended instances is = is
  opening-loaded false at_opening ended instances is = refused-loaded at_opening ended instances is

-- each cause is one over the keeper as it was before
pub caused-loaded : {K W B : Type 0} (tells : Tells K W B) (name : List ℕ) (rows : List Row) (keeper loaded kept : K) (sink given : W) (ended : Status)
    → HasLoaded name rows (tells.store keeper) (tells.store loaded) → GoesOn (tells.store loaded) (tells.store kept)
    → IsCausedOnceRead tells (Some rows) loaded kept sink given ended
    → IsCausedOnceRead tells (told_before (tells.store keeper).rows (tells.store kept).rows) keeper kept sink given ended
caused-loaded tells name rows keeper loaded kept sink given ended load goes_on is =
    let now = (tells.store kept).faults in
    let told = told_to_end tells.store name rows keeper loaded kept load goes_on in
    record {
      opened = is.opened;
      keeper_fault = λ fault. subst (λ n. Failed n now) load.no_fault (is.keeper_fault fault);
      sink_fault = is.sink_fault;
      bad_store = store_told ended _ rows told is.bad_store;
      unsound = λ all seq bad_row stored refused no_fault.
          let both : rows ≡ all = subst (λ held. IfSome held (λ kept. rows ≡ kept)) stored told in
          is.unsound all seq bad_row (ap Some both) refused (subst (λ n. ¬ Failed n now) (sym load.no_fault) no_fault);
    }

-- and so is what comes back where no table was begun
pub not_begun-loaded : {K W B : Type 0} (store : K → Store) (instances : List Instance) (hands : List (Hand B)) (name : List ℕ) (rows : List Row)
    (keeper loaded : K) (sink : W) (back : NotBegun K W B)
    → HasLoaded name rows (store keeper) (store loaded) → IsNotBegun store instances hands (Some rows) loaded sink back
    → IsNotBegun store instances hands (told_before (store keeper).rows (store back.keeper).rows) keeper sink back
not_begun-loaded store instances hands name rows keeper loaded sink back load is =
    let now = (store back.keeper).faults in
    record {
      cause = early_told back.status (store keeper).faults now _ rows (told_to_end store name rows keeper loaded back.keeper load is.goes_on)
          (subst (λ n. EarlyCause back.status n now (Some rows)) load.no_fault is.cause);
      at_opening = opening-loaded store name rows keeper loaded back.keeper load is.goes_on false back.at_opening back.status instances is.at_opening;
      rows = IsAtMost-then (store keeper).rows (store loaded).rows (store back.keeper).rows load.kept.rows is.rows;
      goes_on = goes_on-loaded store name rows keeper loaded back.keeper load is.goes_on;
      sink_is = is.sink_is;
      hands_back = is.hands_back;
    }
