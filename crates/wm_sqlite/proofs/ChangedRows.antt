-- What a change of the tables makes of the rows that it holds.
use Rattle.sqlite.specs.Effect.{Database}
use Rattle.sqlite.specs.Held.{Held}
use Rattle.sqlite_trees.specs.Tree.{without_rowid}
use Rattle.sqlite_trees.specs.declared.store.Store.{Ghosts}
use Rattle.std.proofs.Common.{◌≡◌, ◌+◌, ◌<◌, ℕ, ℤ, List, [], ◌∷◌, length, take, get_or, sym, ap, ◌∙◌}
use Rattle.std.proofs.lemmas.List.{take_more}
use Rattle.wm_keeper.specs.Keeper.{put_row, remove_row}
use Rattle.wm_keeper.specs.declared.row.Change.{Change}
use Rattle.wm_keeper.specs.declared.row.Row.{Row}
use Rattle.wm_sqlite.proofs.HeldRows.{added-append, removed-append}
use Rattle.wm_sqlite.proofs.HeldTables.{held-deleted, held-replaced, IsListed-deleted, IsListed-replaced}
use Rattle.wm_columns.specs.Values.{AreLists}
use Rattle.wm_sqlite.specs.Held.{added, removed, with_cells, without, Tables}
use Rattle.wm_sqlite.specs.Resting.{AreSpread, Holds}
use Rattle.wm_sqlite.specs.Standing.{StandsWith}
use Rattle.wm_columns.specs.Values.{values_of}
use Rattle.wm_sqlite.specs.Table.{cells}
use Rattle.wm_sqlite.specs.declared.standing.Spread.{Spread}
use Rattle.wm_sqlite.specs.declared.standing.Spread.TheVariants.{Both, Second}
use Rattle.sqlite_value.specs.Order.{Row as Cells}

-- one change more
pub removed-more : (changes : List Change) (i : ℕ) (d : Change) (rows : List Row) → i < length changes
    → removed (get_or changes i d ∷ []) (removed (take i changes) rows) ≡ removed (take (i + 1) changes) rows
removed-more changes i d rows within =
    sym (ap (λ some. removed some rows) (take_more changes i d within) ∙ removed-append (take i changes) (get_or changes i d ∷ []) rows)

pub added-more : (changes : List Change) (i : ℕ) (d : Change) (rows : List Row) → i < length changes
    → added (get_or changes i d ∷ []) (added (take i changes) rows) ≡ added (take (i + 1) changes) rows
added-more changes i d rows within =
    sym (ap (λ some. added some rows) (take_more changes i d within) ∙ added-append (take i changes) (get_or changes i d ∷ []) rows)

-- where `work` is empty it stays so
spread-without : (spread : Spread) (n : ℤ) (tables : Tables) → AreSpread spread tables → AreSpread spread (without n tables)
spread-without Both n tables so = tt
spread-without Second n tables so = ap (without_rowid n) so

spread-put : (spread : Spread) (r : Cells) (tables : Tables) → AreSpread spread tables → AreSpread spread (with_cells r tables)
spread-put Both r tables so = tt
spread-put Second r tables so = so

module _ {A : Type 0} (g : Ghosts A) (spread : Spread) (base : Database) (rows : List Row) (old new : Held A) where
  -- a number is deleted
  pub holds-without : (n : ℤ) → (holds : Holds g spread base rows old) → StandsWith g base (without n holds.tables) new
      → Holds g spread base (remove_row n rows) new
  holds-without n holds stands = record {
    tables = without n holds.tables;
    stands = stands;
    are_held = record {
      spread_so = spread-without spread n holds.tables holds.are_held.spread_so;
      listed = IsListed-deleted n holds.tables holds.are_held.listed;
      held = held-deleted n holds.tables holds.are_held.listed ∙ ap (remove_row n) holds.are_held.held;
    };
  }

  -- a row takes the place of any under its number
  pub holds-replaced : (row : Row) (prior tags : List ℕ) → AreLists row prior tags → (holds : Holds g spread base rows old)
      → StandsWith g base (with_cells (cells (values_of row prior tags)) (without row.seq holds.tables)) new → Holds g spread base (put_row row rows) new
  holds-replaced row prior tags are holds stands = record {
    tables = with_cells (cells (values_of row prior tags)) (without row.seq holds.tables);
    stands = stands;
    are_held = record {
      spread_so = spread-put spread (cells (values_of row prior tags)) (without row.seq holds.tables)
          (spread-without spread row.seq holds.tables holds.are_held.spread_so);
      listed = IsListed-replaced row prior tags are holds.tables holds.are_held.listed;
      held = held-replaced row prior tags are holds.tables holds.are_held.listed ∙ ap (put_row row) holds.are_held.held;
    };
  }

  -- what holds still stands
  pub holds-still : (holds : Holds g spread base rows old) → StandsWith g base holds.tables new → Holds g spread base rows new
  holds-still holds stands = record { tables = holds.tables; stands = stands; are_held = holds.are_held }
