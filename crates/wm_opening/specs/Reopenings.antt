-- What the rows of a store become when it opens: its records, and the changes of its rows.
use Rattle.std.specs.Prelude.{◌≡◌, ◌≢◌, ◌⊎◌, List, [], ◌∷◌, map, IfOk}
use Rattle.wm_keeper.specs.Keeper.{AreOfDifferentNumbers, changed}
use Rattle.wm_keeper.specs.declared.row.Change.{Change}
use Rattle.wm_keeper.specs.declared.row.Change.TheVariants.{Put}
use Rattle.wm_keeper.specs.declared.row.Row.{Row}
use Rattle.wm_machine.specs.Opened.{AreFresh, Opened, opening_state, reopened}
use Rattle.wm_machine.specs.Rows.{row_of}
use Rattle.wm_machine.specs.declared.record.Record.{Record}
use Rattle.wm_machine.specs.declared.state.Instance.{Instance}
use Rattle.wm_rows.specs.Sound.{checked}

-- the row of a record that waits again takes the place of its row
abbrev pub put_reopened : Record → Change
put_reopened work = Put (row_of (reopened work))

-- the changes of rows that stand beside their records: of each row that isn't that of its record once this waits again
abbrev pub AreReopenings : List Row → List Record → List Change → Type 0
AreReopenings [] [] changes = changes ≡ []
AreReopenings (row ∷ rows) (work ∷ works) changes =
    ((row ≡ row_of (reopened work)) × AreReopenings rows works changes)
    ⊎ ((row ≢ row_of (reopened work)) × ((more : List Change) × ((changes ≡ put_reopened work ∷ more) × AreReopenings rows works more)))
AreReopenings _ _ changes = ⊥

-- The rows open to these records, whatever the instances are. The changes are those of the rows that aren't theirs once they wait again; they make the
-- rows those of these records, no two are of one number, and there is none where the rows are so already.
pub record AreReopened (rows : List Row) (works : List Record) (changes : List Change) : Type 0 where
  pub opened : (instances : List Instance) → AreFresh instances → Opened rows instances (opening_state works instances)
  pub those_differing : IfOk (checked rows) (λ stored. AreReopenings rows stored changes)
  pub rows_changed : changed changes rows ≡ map row_of works
  pub apart : AreOfDifferentNumbers changes
  pub only_changed : map row_of works ≡ rows → changes ≡ []
