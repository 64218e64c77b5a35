-- What a keeper tells once its tables were made or read.
use Rattle.sqlite.specs.Effect.{Database}
use Rattle.sqlite.specs.Held.{Held, state}
use Rattle.sqlite.specs.State.{State, HasCleanDisk, Survives}
use Rattle.sqlite_schema.specs.declared.schema.Schema.{Schema}
use Rattle.sqlite_trees.specs.Tree.{Trees}
use Rattle.sqlite_trees.specs.declared.store.Store.{Ghosts}
use Rattle.sqlite_value.specs.Order.{Row as Cells}
use Rattle.std.proofs.Common.{◌≡◌, ◌≢◌, ◌⊎◌, ℕ, Bool, true, false, cond, not, List, [], ◌∷◌, map, Option, Some, None, IfSome, IsPermutation, IsSome, IsTrue, refl, sym, ap, ◌∙◌, subst, inl, inr, true≢false, arith}
use Rattle.std.proofs.lemmas.List.Sorted.{length_permutation, IsPermutation-sym}
use Rattle.wm_keeper.specs.Keeper.{Ascends}
use Rattle.wm_keeper.specs.Store.{Store, IsAtMost, IsStoreKept, KeepsTelling}
use Rattle.wm_keeper.specs.declared.row.Row.{Row}
use Rattle.wm_sqlite.proofs.HeldRows.{told-none, told-some, Differ-same}
use Rattle.wm_sqlite.proofs.HeldTables.{all_numbered, all_shown, held-shown}
use Rattle.wm_sqlite.specs.Held.{all_rows, held_in, row_in, tables_in, told_rows, Tables}
use Rattle.wm_sqlite.specs.Resting.{AreHeld, AreSpread, IsIncomplete, Rests, RestsStill, RestsWith, WasOpen}
use Rattle.wm_sqlite.specs.Standing.{ShowsTables}
use Rattle.wm_sqlite.specs.Table.{both_schema, carried, no_schema, shown_row, work_schema}
use Rattle.wm_sqlite.specs.Told.{looked_at, rows_told, tables_at, told_at, told_of, while_open, AreRead, AreShown, AreThere, IsLookedAt, IsMade, IsUnmade, Knows, LeavesRows, TellsAlike}
use Rattle.wm_sqlite.specs.declared.standing.Spread.{Spread}
use Rattle.wm_sqlite.specs.declared.standing.Spread.TheVariants.{Both, Second}
use Rattle.wm_sqlite.specs.declared.standing.Standing.{Standing}
use Rattle.wm_sqlite.specs.declared.standing.Standing.TheVariants.{Unknown, Missing, First, Found, Read}

-- ---- what is told alike

at_most-same : (this now : Option (List Row)) → now ≡ this → IsAtMost this now
at_most-same this None same = tt
at_most-same this (Some told) same = sym same

at_most-none : (this now : Option (List Row)) → now ≡ None → IsAtMost this now
at_most-none this None none = tt
at_most-none this (Some told) none = absurd cc

pub alike-kept : (before now : Store) → TellsAlike before now → IsStoreKept before now
alike-kept before now alike = record { rows = go now.is_lost refl; images = alike.images }
  where
    go : (lost : Bool) → now.is_lost ≡ lost → IsAtMost before.rows now.rows
    go true e = at_most-none before.rows now.rows (alike.silent e)
    go false e = at_most-same before.rows now.rows (alike.rows e)

pub alike-telling : (before now : Store) → TellsAlike before now → KeepsTelling before now
alike-telling before now alike = record { rows = λ told. go now.is_lost refl told; lost = alike.lost }
  where
    go : (lost : Bool) → now.is_lost ≡ lost → IsSome before.rows → IsSome now.rows ⊎ IsTrue now.is_lost
    go true e told = inr e
    go false e told = inl (subst IsSome (sym (alike.rows e)) told)

pub alike-then : (before between now : Store) → TellsAlike before between → TellsAlike between now → TellsAlike before now
alike-then before between now one two = record {
  rows = λ kept. two.rows kept ∙ one.rows (go between.is_lost refl kept);
  silent = two.silent;
  images = λ image left. one.images image (two.images image left);
  lost = λ lost. two.lost (one.lost lost);
}
  where
    go : (lost : Bool) → between.is_lost ≡ lost → now.is_lost ≡ false → lost ≡ false
    go true e kept = absurd (true≢false (sym (two.lost e) ∙ kept))
    go false e kept = refl

-- the count of faults is no part of it
pub alike-counted : (before now : Standing) (s t : State) (n m : ℕ) → TellsAlike (told_of before s 0) (told_of now t 0)
    → TellsAlike (told_of before s n) (told_of now t m)
alike-counted before now s t n m alike = record { rows = alike.rows; silent = alike.silent; images = alike.images; lost = alike.lost }

opened_of : (up : Bool) → not up ≡ false → up ≡ true
opened_of true e = refl
opened_of false e = absurd (true≢false e)

same_while : (now before : Bool) (told other : Option (List Row)) → now ≡ true → before ≡ true → told ≡ other → while_open now told ≡ while_open before other
same_while true true told other up was same = same
same_while true false told other up was same = absurd (true≢false (sym was))
same_while false before told other up was same = absurd (true≢false (sym up))

shut_while : (up : Bool) (told : Option (List Row)) → not up ≡ true → while_open up told ≡ None
shut_while true told e = absurd (true≢false (sym e))
shut_while false told e = refl

pub shut-still : (before now : Bool) → (IsTrue now → IsTrue before) → IsTrue (not before) → IsTrue (not now)
shut-still before false was shut = refl
shut-still true true was shut = shut
shut-still false true was shut = was refl

-- none are told of what isn't known
unknown_none : (P : List Row → Type 0) (up : Bool) → IfSome (while_open up None) P
unknown_none P true = tt
unknown_none P false = tt

told_open : (P : List Row → Type 0) (up : Bool) (told : Option (List Row)) → ((held : List Row) → IsTrue up → told ≡ Some held → P held) → IfSome (while_open up told) P
told_open P true None h = tt
told_open P true (Some held) h = h held refl refl
told_open P false told h = tt

-- a table that is unmade is told by the tables that are there
told-unmade : (standing : Standing) → IsUnmade standing → (trees : Trees) → told_at standing trees ≡ told_rows (map row_in (all_rows (tables_at standing trees)))
told-unmade Unknown un trees = absurd un
told-unmade Missing un trees = refl
told-unmade First un trees = refl
told-unmade Found un trees = absurd un
told-unmade (Read spread) un trees = absurd un

module _ {A : Type 0} (g : Ghosts A) where
  -- an open store leaves its last commit and nothing else
  abbrev pub LeavesLast : Held A → Type 0
  LeavesLast h = (left : Trees) → IsTrue (state g h).is_open → (state g h).may_leave left → left ≡ (state g h).committed.trees

  abbrev pub MayLeaveLast : Held A → Type 0
  MayLeaveLast h = IsTrue (state g h).is_open → (state g h).may_leave (state g h).committed.trees

  -- what is known of an open store of both tables
  knows-both : (standing : Standing) → IsMade standing → standing ≢ Unknown → (h : Held A) → Knows g standing h → IsTrue (state g h).is_open → Rests g both_schema h
  knows-both Unknown made known h knows up = absurd (known refl)
  knows-both Missing made known h knows up = absurd made
  knows-both First made known h knows up = absurd made
  knows-both Found made known h knows up = knows up
  knows-both (Read spread) made known h knows up = (knows up).rests

module _ {A : Type 0} (g : Ghosts A) (old new : Held A) (up_clean : IsTrue (state g new).is_open → HasCleanDisk (state g new))
    (was : WasOpen g old new) where
  was_up : IsTrue (state g new).is_open → IsTrue (state g old).is_open
  was_up up = was (up_clean up) up

  told-alike : (before now : Standing)
      → (IsTrue (state g new).is_open → told_at now (state g new).now.trees ≡ told_at before (state g old).now.trees)
      → ((image : List Row) → LeavesRows now (state g new) image → LeavesRows before (state g old) image)
      → TellsAlike (told_of before (state g old) 0) (told_of now (state g new) 0)
  told-alike before now same images = record {
    rows = λ kept.
        let up = opened_of (state g new).is_open kept in
        same_while (state g new).is_open (state g old).is_open _ _ up (was_up up) (same up);
    silent = λ shut. shut_while (state g new).is_open _ shut;
    images = images;
    lost = shut-still (state g old).is_open (state g new).is_open was_up;
  }

  -- ---- tables that are made

  module _ (standing : Standing) (un : IsUnmade standing) (knows : Knows g standing old) where
    abbrev Made : Type 0
    Made = HasCleanDisk (state g new) → Rests g no_schema old → Rests g both_schema new × (tables_in (state g new).now.trees ≡ ([], []))

    abbrev Completed : Type 0
    Completed = HasCleanDisk (state g new) → Rests g work_schema old
        → Rests g both_schema new × (tables_in (state g new).now.trees ≡ ((state g old).now.trees 0, []))

    abbrev Unmade : Type 0
    Unmade = HasCleanDisk (state g new) → IsTrue (state g new).is_open → (schema : Schema) → IsIncomplete schema → RestsStill g schema old new

    abbrev Crashes : Type 0
    Crashes = HasCleanDisk (state g new) → (left : Trees) → (state g new).may_leave left
        → (state g old).may_leave left
        ⊎ (IsTrue (state g old).is_open × (Rests g work_schema old → left 0 ≡ (state g old).now.trees 0))

    -- they are then those that were there, and what wasn't there has no row
    completes : (known : Standing) → IsUnmade known → Knows g known old → Made → Completed → HasCleanDisk (state g new) → IsTrue (state g old).is_open
        → Rests g both_schema new × (tables_in (state g new).now.trees ≡ tables_at known (state g old).now.trees)
    completes Unknown is knows made completed clean up = absurd is
    completes Missing is knows made completed clean up = made clean (knows up)
    completes First is knows made completed clean up = completed clean (knows up)
    completes Found is knows made completed clean up = absurd is
    completes (Read spread) is knows made completed clean up = absurd is

    settled : (known : Standing) → IsUnmade known → Knows g known old → IsTrue (state g old).is_open → (state g old).now ≡ (state g old).committed
    settled Unknown is knows up = absurd is
    settled Missing is knows up = (knows up).settled
    settled First is knows up = (knows up).settled
    settled Found is knows up = absurd is
    settled (Read spread) is knows up = absurd is

    pub made-known : Made → Completed → Knows g Found new
    made-known made completed up = (completes standing un knows made completed (up_clean up) (was_up up)).0

    told_now : Rests g both_schema new × (tables_in (state g new).now.trees ≡ tables_at standing (state g old).now.trees)
        → told_at Found (state g new).now.trees ≡ told_at standing (state g old).now.trees
    told_now are =
        ap (λ (tables : Tables). told_rows (map row_in (all_rows tables))) are.1 ∙ sym (told-unmade standing un (state g old).now.trees)

    pub made-alike : Made → Completed → (HasCleanDisk (state g new) → HasCleanDisk (state g old)) → (HasCleanDisk (state g new) → IsTrue (state g old).is_open)
        → LeavesLast g new → MayLeaveLast g old → TellsAlike (told_of standing (state g old) 0) (told_of Found (state g new) 0)
    made-alike made completed clean opened last stays =
        told-alike standing Found (λ up. told_now (completes standing un knows made completed (up_clean up) (was_up up)))
        (λ image leaves.
        let up = opened leaves.clean in
        let are = completes standing un knows made completed leaves.clean up in
        let same : leaves.left ≡ (state g new).now.trees =
        last leaves.left are.0.is_open leaves.may ∙ ap (λ (d : Database). d.trees) (sym are.0.settled) in
        record {
          clean = clean leaves.clean;
          left = (state g old).committed.trees;
          may = stays up;
          told = ap (λ (d : Database). told_at standing d.trees) (sym (settled standing un knows up)) ∙ sym (told_now are)
              ∙ ap (told_at Found) (sym same) ∙ leaves.told;
        })

    pub made-there : Made → Completed → HasCleanDisk (state g new) → IfSome (rows_told standing (state g old)) (AreThere g new)
    made-there made completed clean =
        told_open (AreThere g new) (state g old).is_open (told_at standing (state g old).now.trees) (λ held up told.
        let are = completes standing un knows made completed clean up in
        record { rests = are.0; told = told_now are ∙ told })

    -- those that weren't made are missing still
    still : (known : Standing) → IsUnmade known → Knows g known old → Unmade → IsTrue (state g new).is_open → (state g new).now ≡ (state g old).now
    still Unknown is knows unmade up = absurd is
    still Missing is knows unmade up = (unmade (up_clean up) up no_schema (inl refl) (knows (was_up up))).1
    still First is knows unmade up = (unmade (up_clean up) up work_schema (inr refl) (knows (was_up up))).1
    still Found is knows unmade up = absurd is
    still (Read spread) is knows unmade up = absurd is

    known_still : (known : Standing) → IsUnmade known → Knows g known old → Unmade → Knows g known new
    known_still Unknown is knows unmade = tt
    known_still Missing is knows unmade = λ up. (unmade (up_clean up) up no_schema (inl refl) (knows (was_up up))).0
    known_still First is knows unmade = λ up. (unmade (up_clean up) up work_schema (inr refl) (knows (was_up up))).0
    known_still Found is knows unmade = absurd is
    known_still (Read spread) is knows unmade = absurd is

    pub unmade-known : Unmade → Knows g standing new
    unmade-known unmade = known_still standing un knows unmade

    told_left : (known : Standing) → IsUnmade known → Knows g known old → IsTrue (state g old).is_open → (left : Trees)
        → (Rests g work_schema old → left 0 ≡ (state g old).now.trees 0) → told_at known left ≡ told_at known (state g old).now.trees
    told_left Unknown is knows up left zero = absurd is
    told_left Missing is knows up left zero = refl
    told_left First is knows up left zero = ap (λ first. told_rows (map row_in (all_rows (first, [])))) (zero (knows up))
    told_left Found is knows up left zero = absurd is
    told_left (Read spread) is knows up left zero = absurd is

    pub unmade-alike : Unmade → Crashes → (HasCleanDisk (state g new) → HasCleanDisk (state g old)) → MayLeaveLast g old
        → TellsAlike (told_of standing (state g old) 0) (told_of standing (state g new) 0)
    unmade-alike unmade crashes clean stays =
        told-alike standing standing (λ up. ap (λ (d : Database). told_at standing d.trees) (still standing un knows unmade up))
        (λ image leaves. elim (crashes leaves.clean leaves.left leaves.may) [
          | inl may ↦ record { clean = clean leaves.clean; left = leaves.left; may = may; told = leaves.told }
          | inr made ↦ record {
            clean = clean leaves.clean;
            left = (state g old).committed.trees;
            may = stays made.0;
            told = ap (λ (d : Database). told_at standing d.trees) (sym (settled standing un knows made.0))
                ∙ sym (told_left standing un knows made.0 leaves.left made.1) ∙ leaves.told;
          }
        ])

  -- ---- tables that were read

  abbrev Keeps : Type 0
  Keeps = HasCleanDisk (state g new) → IsTrue (state g new).is_open → RestsStill g both_schema old new

  same_told : (standing : Standing) → IsMade standing → Knows g standing old → Keeps → IsTrue (state g new).is_open
      → told_at standing (state g new).now.trees ≡ told_at standing (state g old).now.trees
  same_told Unknown made knows keeps up = refl
  same_told Missing made knows keeps up = absurd made
  same_told First made knows keeps up = absurd made
  same_told Found made knows keeps up = ap (λ (d : Database). told_at Found d.trees) (keeps (up_clean up) up (knows (was_up up))).1
  same_told (Read spread) made knows keeps up = ap (λ (d : Database). told_at Found d.trees) (keeps (up_clean up) up (knows (was_up up)).rests).1

  pub read-alike : (standing : Standing) → IsMade standing → Knows g standing old → Keeps → Survives (state g old) (state g new) (λ left. ⊥)
      → (HasCleanDisk (state g new) → HasCleanDisk (state g old)) → TellsAlike (told_of standing (state g old) 0) (told_of standing (state g new) 0)
  read-alike standing made knows keeps survives clean =
      told-alike standing standing (same_told standing made knows keeps)
      (λ image leaves. record {
        clean = clean leaves.clean;
        left = leaves.left;
        may = elim (survives.crash leaves.clean leaves.left leaves.may) [ inl may ↦ may | inr none ↦ absurd none ];
        told = leaves.told;
      })

  pub read-known : (standing : Standing) → IsMade standing → Knows g standing old → Keeps → Knows g standing new
  read-known Unknown made knows keeps = tt
  read-known Missing made knows keeps = absurd made
  read-known First made knows keeps = absurd made
  read-known Found made knows keeps = λ up. (keeps (up_clean up) up (knows (was_up up))).0
  read-known (Read spread) made knows keeps = λ up.
      let known = knows (was_up up) in
      let kept = keeps (up_clean up) up known.rests in
      record {
        rests = kept.0;
        are_held = subst (λ (d : Database). AreHeld spread (held_in (all_rows (tables_in d.trees))) (tables_in d.trees)) (sym kept.1) known.are_held;
      }

  -- tables that are there are shown as they are
  pub found-shown : (standing : Standing) → IsMade standing → Knows g standing old → Keeps → (first second : List Cells)
      → (Rests g both_schema old → ShowsTables (tables_in (state g old).now.trees) first second) → standing ≢ Unknown → IsTrue (state g new).is_open
      → ShowsTables (tables_in (state g new).now.trees) first second
  found-shown standing made knows keeps first second shows known up =
      let rests = knows-both g standing made known old knows (was_up up) in
      subst (λ (d : Database). ShowsTables (tables_in d.trees) first second) (sym (keeps (up_clean up) up rests).1) (shows rests)

-- tables that were found there are there
pub found-there : {A : Type 0} (g : Ghosts A) (h : Held A) → Knows g Found h → IfSome (rows_told Found (state g h)) (AreThere g h)
found-there g h knows =
    told_open (AreThere g h) (state g h).is_open (told_at Found (state g h).now.trees) (λ held up told. record { rests = knows up; told = told })

pub read-there : {A : Type 0} (g : Ghosts A) (spread : Spread) (h : Held A) → Knows g (Read spread) h
    → IfSome (rows_told (Read spread) (state g h)) (AreThere g h)
read-there g spread h knows =
    told_open (AreThere g h) (state g h).is_open (told_at Found (state g h).now.trees) (λ held up told. record { rests = (knows up).rests; told = told })

pub unknown-there : {A : Type 0} (g : Ghosts A) (s : State) (h : Held A) → IfSome (rows_told Unknown s) (AreThere g h)
unknown-there g s h = unknown_none (AreThere g h) s.is_open

-- what nothing is known of tells nothing
pub unknown-alike : (s t : State) → (IsTrue t.is_open → IsTrue s.is_open) → TellsAlike (told_of Unknown s 0) (told_of Unknown t 0)
unknown-alike s t was = record {
  rows = λ kept. let up = opened_of t.is_open kept in same_while t.is_open s.is_open None None up (was up) refl;
  silent = λ shut. shut_while t.is_open None shut;
  images = λ image leaves. absurd (let e = leaves.told in cc);
  lost = shut-still s.is_open t.is_open was;
}

-- what stays tells alike
pub same-alike : (standing : Standing) (s : State) → TellsAlike (told_of standing s 0) (told_of standing s 0)
same-alike standing s =
    record { rows = λ kept. refl; silent = λ shut. shut_while s.is_open (told_at standing s.now.trees) shut; images = λ image leaves. leaves; lost = λ lost. lost }

-- what is there is shown
pub there-shown : {A : Type 0} (g : Ghosts A) (mid : Held A) (told : Option (List Row)) (first second : List Cells) → IfSome told (AreThere g mid)
    → (Rests g both_schema mid → ShowsTables (tables_in (state g mid).now.trees) first second) → IfSome told (λ held. AreShown held first second)
there-shown g mid None first second there shows = tt
there-shown g mid (Some held) first second there shows =
    record { tables = tables_in (state g mid).now.trees; shows = shows there.rests; told = there.told }

-- ---- rows that were read

module _ (first second : List Cells) (rows : List Row) (are : AreRead first second rows) where
  -- they are those that are told
  pub read-told : (told : Option (List Row)) → IfSome told (λ held. AreShown held first second) → IfSome told (λ held. rows ≡ held)
  read-told None shown = tt
  read-told (Some held) shown =
      let all = map row_in (all_rows shown.tables) in
      let same = all_shown shown.tables first second shown.shows rows are.permutes in
      let some = told-some all held shown.told in
      let up = are.ascend (Differ-same rows _ (IsPermutation-sym _ rows are.permutes) (Differ-same all rows same some.0)) in
      sym (held-shown all rows same up).1 ∙ some.1

  module _ (tables : Tables) (shows : ShowsTables tables first second) where
    abbrev all : List Row
    all = map row_in (all_rows tables)

    same : IsPermutation all rows
    same = all_shown tables first second shows rows are.permutes

    -- where they don't rise, none are told
    pub fallen-none : ¬ Ascends rows → told_rows all ≡ None
    fallen-none fallen =
        told-none all (λ apart. fallen (are.ascend (Differ-same rows _ (IsPermutation-sym _ rows are.permutes) (Differ-same all rows same apart))))

    -- where they rise, they are held
    pub risen-held : (spread : Spread) → AreSpread spread tables → Ascends rows → AreHeld spread (held_in (all_rows tables)) tables
    risen-held spread so up = record {
      spread_so = so;
      listed = record { numbered = all_numbered tables first second shows are.first_numbered are.second_numbered; apart = (held-shown all rows same up).0 };
      held = refl;
    }

-- a table that is shown to be empty is
empty_of : (table : List Cells) → IsPermutation (map carried table) [] → table ≡ []
empty_of [] same = refl
empty_of (r ∷ table) same = absurd (omega (arith, length_permutation (map carried (r ∷ table)) [] same))

none_of : (ordered : List Cells) → [] ≡ map shown_row ordered → ordered ≡ []
none_of [] e = refl
none_of (r ∷ ordered) e = absurd cc

pub spread-shown : (spread : Spread) (tables : Tables) (first second : List Cells) → ShowsTables tables first second → (spread ≡ Second → first ≡ [])
    → AreSpread spread tables
spread-shown Both tables first second shows none = tt
spread-shown Second tables first second shows none =
    let ordered : shows.first_shown.ordered ≡ [] = none_of shows.first_shown.ordered (sym (none refl) ∙ shows.first_shown.is) in
    empty_of tables.0 (subst (IsPermutation (map carried tables.0)) ordered shows.first_shown.permutes)

-- ---- what is known once rows were read

module _ (standing : Standing) (made : IsMade standing) (apart : Bool) (spread : Spread) where
  go_alike : (known : Standing) (s : State) (rise : Bool) → (rise ≡ false → IsTrue s.is_open → told_at known s.now.trees ≡ None)
      → TellsAlike (told_of known s 0) (told_of (Read spread) s 0)
      → TellsAlike (told_of known s 0) (told_of (cond rise (Read spread) Unknown) s 0)
  go_alike known s true none alike = alike
  go_alike known s false none alike = record {
    rows = λ kept. let up = opened_of s.is_open kept in same_while s.is_open s.is_open None (told_at known s.now.trees) up up (sym (none refl up));
    silent = λ shut. shut_while s.is_open None shut;
    images = λ image leaves. absurd (let e = leaves.told in cc);
    lost = λ lost. lost;
  }

  looked_alike : (known : Standing) → IsMade known → (s : State) → (apart ≡ false → known ≢ Unknown → IsTrue s.is_open → told_at Found s.now.trees ≡ None)
      → TellsAlike (told_of known s 0) (told_of (looked_at apart spread known) s 0)
  looked_alike Unknown is s none = same-alike Unknown s
  looked_alike Missing is s none = absurd is
  looked_alike First is s none = absurd is
  looked_alike Found is s none = go_alike Found s apart (λ e up. none e (λ same. absurd cc) up) (same-found s)
    where
      same-found : (s : State) → TellsAlike (told_of Found s 0) (told_of (Read spread) s 0)
      same-found s = record {
        rows = λ kept. refl;
        silent = λ shut. shut_while s.is_open (told_at Found s.now.trees) shut;
        images = λ image leaves. record { clean = leaves.clean; left = leaves.left; may = leaves.may; told = leaves.told };
        lost = λ lost. lost;
      }
  looked_alike (Read before) is s none = go_alike (Read before) s apart (λ e up. none e (λ same. absurd cc) up) (same-read s)
    where
      same-read : (s : State) → TellsAlike (told_of (Read before) s 0) (told_of (Read spread) s 0)
      same-read s = record {
        rows = λ kept. refl;
        silent = λ shut. shut_while s.is_open (told_at Found s.now.trees) shut;
        images = λ image leaves. record { clean = leaves.clean; left = leaves.left; may = leaves.may; told = leaves.told };
        lost = λ lost. lost;
      }

  pub looked-alike : (s : State) → (apart ≡ false → standing ≢ Unknown → IsTrue s.is_open → told_at Found s.now.trees ≡ None)
      → TellsAlike (told_of standing s 0) (told_of (looked_at apart spread standing) s 0)
  looked-alike s none = looked_alike standing made s none

  module _ {A : Type 0} (g : Ghosts A) (h : Held A) where
    go_known : (rise : Bool) → (rise ≡ true → IsTrue (state g h).is_open → RestsWith g spread (held_in (all_rows (tables_in (state g h).now.trees))) h)
        → Knows g (cond rise (Read spread) Unknown) h
    go_known true held = held refl
    go_known false held = tt

    looked_known : (known : Standing) → IsMade known → Knows g known h
        → (apart ≡ true → known ≢ Unknown → IsTrue (state g h).is_open → AreHeld spread (held_in (all_rows (tables_in (state g h).now.trees))) (tables_in (state g h).now.trees))
        → Knows g (looked_at apart spread known) h
    looked_known Unknown is knows held = tt
    looked_known Missing is knows held = absurd is
    looked_known First is knows held = absurd is
    looked_known Found is knows held = go_known apart (λ e up. record { rests = knows up; are_held = held e (λ same. absurd cc) up })
    looked_known (Read before) is knows held = go_known apart (λ e up. record { rests = (knows up).rests; are_held = held e (λ same. absurd cc) up })

    pub looked-known : Knows g standing h
        → (apart ≡ true → standing ≢ Unknown → IsTrue (state g h).is_open
        → AreHeld spread (held_in (all_rows (tables_in (state g h).now.trees))) (tables_in (state g h).now.trees))
        → Knows g (looked_at apart spread standing) h
    looked-known knows held = looked_known standing made knows held

  go_looked : (rise : Bool) → IsLookedAt (cond rise (Read spread) Unknown)
  go_looked true = tt
  go_looked false = tt

  looked_now : (known : Standing) → IsMade known → IsLookedAt (looked_at apart spread known)
  looked_now Unknown is = tt
  looked_now Missing is = absurd is
  looked_now First is = absurd is
  looked_now Found is = go_looked apart
  looked_now (Read before) is = go_looked apart

  pub looked-now : IsLookedAt (looked_at apart spread standing)
  looked-now = looked_now standing made

-- a keeper goes on telling where what it knows stays, and what is open was open
pub keeps-telling : (standing : Standing) (s t : State) (n m : ℕ) → (IsTrue t.is_open → IsTrue s.is_open)
    → (IsTrue t.is_open → IsSome (told_at standing s.now.trees) → IsSome (told_at standing t.now.trees)) → KeepsTelling (told_of standing s n) (told_of standing t m)
keeps-telling standing s t n m was still = record {
  rows = λ told. go s.is_open t.is_open (told_at standing s.now.trees) (told_at standing t.now.trees) still told;
  lost = shut-still s.is_open t.is_open was;
}
  where
    go : (before now : Bool) (one other : Option (List Row)) → (IsTrue now → IsSome one → IsSome other) → IsSome (while_open before one)
        → IsSome (while_open now other) ⊎ IsTrue (not now)
    go before false one other still told = inr refl
    go true true one other still told = inl (still refl told)
    go false true one other still told = absurd (true≢false (sym told))
