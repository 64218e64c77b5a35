-- What a keeper tells once changes of its tables were made, or refused.
use Rattle.sqlite.specs.Effect.{Database}
use Rattle.sqlite.specs.Held.{Held, state}
use Rattle.sqlite.specs.State.{State, HasCleanDisk}
use Rattle.sqlite_trees.specs.Tree.{Trees}
use Rattle.sqlite_trees.specs.declared.store.Store.{Ghosts}
use Rattle.std.proofs.Common.{◌≡◌, ◌⊎◌, ℕ, Bool, true, false, List, [], map, Option, Some, None, IfSome, IsSome, IsTrue, option_map, refl, sym, ap, ◌∙◌, subst, inl, inr, true≢false}
use Rattle.wm_keeper.proofs.Stores.{IfSome-still, IsAtMost-then}
use Rattle.wm_keeper.specs.Keeper.{changed, AreOfDifferentNumbers, Ascends}
use Rattle.wm_keeper.specs.Store.{Store, changed_rows, IsAtMost, IsCommitted, IsLoaded, IsNotCommitted, IsStoreKept, KeepsTelling}
use Rattle.wm_keeper.specs.declared.row.Change.{Change}
use Rattle.wm_keeper.specs.declared.row.Row.{Row}
use Rattle.wm_sqlite.proofs.HeldRows.{ascends-in_order, changed-parts, told-apart, told-ascends, told-some}
use Rattle.wm_sqlite.proofs.Tellings.{keeps-telling, LeavesLast}
use Rattle.wm_sqlite.specs.Held.{all_rows, held_in, row_in, tables_in}
use Rattle.wm_sqlite.specs.Resting.{with_changes, RestsWith, WasOpen}
use Rattle.wm_sqlite.specs.Told.{rows_told, spread_of, told_at, told_of, while_open, IsLookedAt, Knows, LeavesRows}
use Rattle.wm_sqlite.specs.declared.standing.Spread.{Spread}
use Rattle.wm_sqlite.specs.declared.standing.Standing.{Standing}
use Rattle.wm_sqlite.specs.declared.standing.Standing.TheVariants.{Unknown, Missing, First, Found, Read}

-- ---- what is told

-- rows are told of an open store alone
told-up : (standing : Standing) (s : State) (P : List Row → Type 0) → (IsTrue s.is_open → IfSome (rows_told standing s) P) → IfSome (rows_told standing s) P
told-up standing s P holds = go s.is_open (told_at standing s.now.trees) holds
  where
    go : (up : Bool) (told : Option (List Row)) → (IsTrue up → IfSome (while_open up told) P) → IfSome (while_open up told) P
    go true told holds = holds refl
    go false told holds = tt

-- so rows that are those told before are those loaded
pub loaded-told : (before now : Standing) (s t : State) (n m : ℕ) (rows : List Row) → (IsTrue t.is_open → HasCleanDisk t)
    → (HasCleanDisk t → IfSome (rows_told before s) (λ held. rows ≡ held)) → IsStoreKept (told_of before s 0) (told_of now t 0)
    → IsLoaded rows (told_of before s n) (told_of now t m)
loaded-told before now s t n m rows up_clean are kept = record {
  told = told-up now t (λ held. rows ≡ held)
      (λ up. IfSome-still (λ held. rows ≡ held) (rows_told before s) (rows_told now t) (are (up_clean up)) kept.rows);
  left = λ image leaves. are leaves.clean;
}

-- ---- one call after another

at_most-map : (change : List Row → List Row) (this now : Option (List Row)) → IsAtMost this now → IsAtMost (option_map change this) (option_map change now)
at_most-map change this None at = tt
at_most-map change (Some x) (Some y) at = let same : x ≡ y = cc in ap (λ rows. Some (change rows)) same
at_most-map change None (Some y) at = absurd cc

changed-before : (change : List Row → List Row) (this now : Option (List Row)) (image : List Row) → IsAtMost this now → option_map change now ≡ Some image
    → option_map change this ≡ Some image
changed-before change this None image at is = absurd cc
changed-before change (Some x) (Some y) image at is = let same : x ≡ y = cc in ap (λ rows. Some (change rows)) same ∙ is
changed-before change None (Some y) image at is = absurd cc

pub committed-after : (changes : List Change) (before between now : Store) → IsStoreKept before between → IsCommitted changes between now
    → IsCommitted changes before now
committed-after changes before between now kept made = record {
  rows = IsAtMost-then (changed_rows changes before) (changed_rows changes between) now.rows
      (at_most-map (changed changes) before.rows between.rows kept.rows) made.rows;
  images = λ image left. changed-before (changed changes) before.rows between.rows image kept.rows (made.images image left);
}

pub refused-after : (changes : List Change) (before between now : Store) → IsStoreKept before between → IsNotCommitted changes between now
    → IsNotCommitted changes before now
refused-after changes before between now kept refused = record {
  rows = IsAtMost-then before.rows between.rows now.rows kept.rows refused.rows;
  images = λ image left. elim (refused.images image left) [
    | inl old ↦ inl (kept.images image old)
    | inr made ↦ inr (changed-before (changed changes) before.rows between.rows image kept.rows made)
  ];
}

-- what stays wasn't committed
pub refused-kept : (changes : List Change) (before now : Store) → IsStoreKept before now → IsNotCommitted changes before now
refused-kept changes before now kept = record { rows = kept.rows; images = λ image left. inl (kept.images image left) }

-- ---- changes of the tables

open-rows : (up : Bool) (told : Option (List Row)) (rows : List Row) → IsTrue up → told ≡ Some rows → while_open up told ≡ Some rows
open-rows true told rows up is = is
open-rows false told rows up is = absurd (true≢false (sym up))

at_most_open : (up : Bool) (this told : Option (List Row)) (rows : List Row) → (IsTrue up → told ≡ Some rows) → (IsTrue up → this ≡ Some rows)
    → IsAtMost this (while_open up told)
at_most_open true this told rows is same = subst (IsAtMost this) (sym (is refl)) (same refl)
at_most_open false this told rows is same = tt

-- nothing is told of what isn't known
unknown_most : (this : Option (List Row)) (up : Bool) → IsAtMost this (while_open up None)
unknown_most this true = tt
unknown_most this false = tt

one_of : (told : Option (List Row)) (rows image : List Row) → told ≡ Some rows → told ≡ Some image → rows ≡ image
one_of told rows image is are = let same : Some rows ≡ Some image = sym is ∙ are in cc

module _ {A : Type 0} (g : Ghosts A) (spread : Spread) where
  -- the rows that a connection holds
  abbrev pub held_by : Held A → List Row
  held_by h = held_in (all_rows (tables_in (state g h).now.trees))

  -- rows that are held are told
  pub told-held : (rows : List Row) (h : Held A) → RestsWith g spread rows h → told_at (Read spread) (state g h).now.trees ≡ Some rows
  told-held rows h with =
      told-apart (map row_in (all_rows (tables_in (state g h).now.trees))) with.are_held.listed.apart ∙ ap Some with.are_held.held

  again : (rows : List Row) (h : Held A) → RestsWith g spread rows h → RestsWith g spread (held_by h) h
  again rows h with =
      record { rests = with.rests; are_held = record { spread_so = with.are_held.spread_so; listed = with.are_held.listed; held = refl } }

module _ {A : Type 0} (g : Ghosts A) (changes : List Change) (old new : Held A) (apart : AreOfDifferentNumbers changes)
    (up_clean : IsTrue (state g new).is_open → HasCleanDisk (state g new)) (was : WasOpen g old new) where
  abbrev before : List Row
  before = held_in (all_rows (tables_in (state g old).now.trees))

  was_up : IsTrue (state g new).is_open → IsTrue (state g old).is_open
  was_up up = was (up_clean up) up

  in_parts : changed changes before ≡ with_changes changes before
  in_parts = changed-parts changes before apart (ascends-in_order (map row_in (all_rows (tables_in (state g old).now.trees))))

  abbrev Made : Standing → Type 0
  Made standing = HasCleanDisk (state g new) → (rows : List Row) → RestsWith g (spread_of standing) rows old → RestsWith g (spread_of standing) (with_changes changes rows) new

  abbrev Unmade : Standing → Type 0
  Unmade standing = HasCleanDisk (state g new) → IsTrue (state g new).is_open → (rows : List Row) → RestsWith g (spread_of standing) rows old
      → RestsWith g (spread_of standing) rows new

  abbrev Crashes : Standing → Type 0
  Crashes standing = HasCleanDisk (state g new) → (left : Trees) → (state g new).may_leave left
      → (state g old).may_leave left
      ⊎ (IsTrue (state g old).is_open × ((rows : List Row) → RestsWith g (spread_of standing) rows old → held_in (all_rows (tables_in left)) ≡ with_changes changes rows))

  pub changed-known : (standing : Standing) → IsLookedAt standing → Knows g standing old → Made standing → Knows g standing new
  changed-known Unknown looked knows made = tt
  changed-known Missing looked knows made = absurd looked
  changed-known First looked knows made = absurd looked
  changed-known Found looked knows made = absurd looked
  changed-known (Read spread) looked knows made = λ up. again g spread _ new (made (up_clean up) before (knows (was_up up)))

  pub unchanged-known : (standing : Standing) → IsLookedAt standing → Knows g standing old → Unmade standing → Knows g standing new
  unchanged-known Unknown looked knows unmade = tt
  unchanged-known Missing looked knows unmade = absurd looked
  unchanged-known First looked knows unmade = absurd looked
  unchanged-known Found looked knows unmade = absurd looked
  unchanged-known (Read spread) looked knows unmade = λ up. again g spread _ new (unmade (up_clean up) up before (knows (was_up up)))

  -- what was told before
  old_told : (spread : Spread) → Knows g (Read spread) old → IsTrue (state g old).is_open → rows_told (Read spread) (state g old) ≡ Some before
  old_told spread knows up =
      open-rows (state g old).is_open (told_at (Read spread) (state g old).now.trees) before up (told-held g spread before old (knows up))

  changed_told : (spread : Spread) → Knows g (Read spread) old → IsTrue (state g old).is_open
      → option_map (changed changes) (rows_told (Read spread) (state g old)) ≡ Some (with_changes changes before)
  changed_told spread knows up = ap (option_map (changed changes)) (old_told spread knows up) ∙ ap Some in_parts

  pub changed-told : (standing : Standing) → IsLookedAt standing → Knows g standing old → (HasCleanDisk (state g new) → IsTrue (state g old).is_open)
      → Made standing → LeavesLast g new → IsCommitted changes (told_of standing (state g old) 0) (told_of standing (state g new) 0)
  changed-told Unknown looked knows opened made last =
      record { rows = unknown_most _ (state g new).is_open; images = λ image leaves. absurd (let e = leaves.told in cc) }
  changed-told Missing looked knows opened made last = absurd looked
  changed-told First looked knows opened made last = absurd looked
  changed-told Found looked knows opened made last = absurd looked
  changed-told (Read spread) looked knows opened made last = record {
    rows = at_most_open (state g new).is_open _ (told_at (Read spread) (state g new).now.trees) (with_changes changes before)
        (λ up. told-held g spread _ new (made (up_clean up) before (knows (was_up up)))) (λ up. changed_told spread knows (was_up up));
    images = λ image leaves.
        let up = opened leaves.clean in
        let done = made leaves.clean before (knows up) in
        let same : leaves.left ≡ (state g new).now.trees =
        last leaves.left done.rests.is_open leaves.may ∙ ap (λ (d : Database). d.trees) (sym done.rests.settled) in
        changed_told spread knows up
        ∙ ap Some (one_of (told_at (Read spread) leaves.left) (with_changes changes before) image
        (ap (told_at (Read spread)) same ∙ told-held g spread _ new done) leaves.told);
  }

  pub unchanged-told : (standing : Standing) → IsLookedAt standing → Knows g standing old → (HasCleanDisk (state g new) → HasCleanDisk (state g old))
      → Unmade standing → Crashes standing → IsNotCommitted changes (told_of standing (state g old) 0) (told_of standing (state g new) 0)
  unchanged-told Unknown looked knows clean unmade crashes =
      record { rows = unknown_most _ (state g new).is_open; images = λ image leaves. absurd (let e = leaves.told in cc) }
  unchanged-told Missing looked knows clean unmade crashes = absurd looked
  unchanged-told First looked knows clean unmade crashes = absurd looked
  unchanged-told Found looked knows clean unmade crashes = absurd looked
  unchanged-told (Read spread) looked knows clean unmade crashes = record {
    rows = at_most_open (state g new).is_open _ (told_at (Read spread) (state g new).now.trees) before
        (λ up. told-held g spread _ new (unmade (up_clean up) up before (knows (was_up up)))) (λ up. old_told spread knows (was_up up));
    images = λ image leaves. elim (crashes leaves.clean leaves.left leaves.may) [
      | inl may ↦ inl (record { clean = clean leaves.clean; left = leaves.left; may = may; told = leaves.told })
      | inr made ↦ inr (
          changed_told spread knows made.0
          ∙ ap Some (sym (made.1 before (knows made.0)) ∙ (told-some (map row_in (all_rows (tables_in leaves.left))) image leaves.told).1))
    ];
  }

  telling : (standing : Standing) → IsLookedAt standing → Knows g standing new → (n m : ℕ) → KeepsTelling (told_of standing (state g old) n) (told_of standing (state g new) m)
  telling Unknown looked knows n m = keeps-telling Unknown (state g old) (state g new) n m was_up (λ up told. told)
  telling Missing looked knows n m = absurd looked
  telling First looked knows n m = absurd looked
  telling Found looked knows n m = absurd looked
  telling (Read spread) looked knows n m =
      keeps-telling (Read spread) (state g old) (state g new) n m was_up (λ up told. subst IsSome (sym (told-held g spread _ new (knows up))) refl)

  pub changed-telling : (standing : Standing) → IsLookedAt standing → Knows g standing old → Made standing → (n m : ℕ)
      → KeepsTelling (told_of standing (state g old) n) (told_of standing (state g new) m)
  changed-telling standing looked knows made n m = telling standing looked (changed-known standing looked knows made) n m

  pub unchanged-telling : (standing : Standing) → IsLookedAt standing → Knows g standing old → Unmade standing → (n m : ℕ)
      → KeepsTelling (told_of standing (state g old) n) (told_of standing (state g new) m)
  unchanged-telling standing looked knows unmade n m = telling standing looked (unchanged-known standing looked knows unmade) n m

-- the count of faults is no part of it
pub committed-counted : (changes : List Change) (one other : Standing) (s t : State) (n m : ℕ)
    → IsCommitted changes (told_of one s 0) (told_of other t 0) → IsCommitted changes (told_of one s n) (told_of other t m)
committed-counted changes one other s t n m made = record { rows = made.rows; images = made.images }

pub refused-counted : (changes : List Change) (one other : Standing) (s t : State) (n m : ℕ)
    → IsNotCommitted changes (told_of one s 0) (told_of other t 0) → IsNotCommitted changes (told_of one s n) (told_of other t m)
refused-counted changes one other s t n m refused = record { rows = refused.rows; images = refused.images }

-- ---- the order of what is told

told_while : (P : List Row → Type 0) (up : Bool) (told : Option (List Row)) → IfSome told P → IfSome (while_open up told) P
told_while P true told holds = holds
told_while P false told holds = tt

told_ascend : (standing : Standing) (trees : Trees) → IfSome (told_at standing trees) Ascends
told_ascend Unknown trees = tt
told_ascend Missing trees = told-ascends (map row_in (all_rows ([], [])))
told_ascend First trees = told-ascends (map row_in (all_rows (trees 0, [])))
told_ascend Found trees = told-ascends (map row_in (all_rows (tables_in trees)))
told_ascend (Read spread) trees = told-ascends (map row_in (all_rows (tables_in trees)))

-- the rows told rise
pub rows-ascend : (standing : Standing) (s : State) → IfSome (rows_told standing s) Ascends
rows-ascend standing s = told_while Ascends s.is_open (told_at standing s.now.trees) (told_ascend standing s.now.trees)

-- ---- a store that is adopted

-- where a store is open, a crash leaves just the rows that are told
pub settled-known : {A : Type 0} (g : Ghosts A) (standing : Standing) (h : Held A) → Knows g standing h → LeavesLast g h → IsTrue (state g h).is_open
    → (image : List Row) → LeavesRows standing (state g h) image → rows_told standing (state g h) ≡ Some image
settled-known g standing h knows last up image leaves = go standing knows (last leaves.left up leaves.may) leaves.told
  where
    told : (known : Standing) → (state g h).now ≡ (state g h).committed → leaves.left ≡ (state g h).committed.trees → told_at known leaves.left ≡ Some image
        → rows_told known (state g h) ≡ Some image
    told known settled last is =
        open-rows (state g h).is_open (told_at known (state g h).now.trees) image up
        (ap (told_at known) (ap (λ (d : Database). d.trees) settled ∙ sym last) ∙ is)

    go : (known : Standing) → Knows g known h → leaves.left ≡ (state g h).committed.trees → told_at known leaves.left ≡ Some image
        → rows_told known (state g h) ≡ Some image
    go Unknown knows last is = absurd cc
    go Missing knows last is = told Missing (knows up).settled last is
    go First knows last is = told First (knows up).settled last is
    go Found knows last is = told Found (knows up).settled last is
    go (Read spread) knows last is = told (Read spread) (knows up).rests.settled last is
