use Rattle.std.proofs.Common.{◌≡◌, ℤ, List, [], ◌∷◌, refl, subst}
use Rattle.sqlite_value.specs.Order.{Row as Cells}
use Rattle.sqlite_trees.specs.Tree.{without_rowid}
use Rattle.wm_sqlite.proofs.StepsMade.{step-map}
use Rattle.wm_sqlite.specs.Resting.{AreSpread}
use Rattle.wm_sqlite.specs.Standing.{StandsWith}
use Rattle.wm_sqlite.proofs.changes.delete_row.Goals as goal

-- a table without rows has none after a delete
stays_none : (n : ℤ) (table : List Cells) → table ≡ [] → table ≡ without_rowid n table
stays_none n [] none = refl
stays_none n (r ∷ table) none = absurd cc

pub returns-in-Both : goal.returns-in-Both
returns-in-Both g c =
    step-map g.A.Store c.delete_both.result c.args.transaction.now.conn c.delete_both.new.transaction.conn c.delete_both.ensures
    (λ deletes clean base tables s so. deletes clean base tables s (so.0, so.1))

pub returns-in-Second : goal.returns-in-Second
returns-in-Second g c =
    let new = c.delete_second.new.transaction.conn in
    step-map g.A.Store c.delete_second.result c.args.transaction.now.conn new c.delete_second.ensures
    (λ deletes clean base tables s so.
    let none = subst (λ spread. AreSpread spread tables) c.in-Second.is so.2 in
    subst (λ rows. StandsWith g.A.Store base (rows, without_rowid c.args.seq.now tables.1) new.now)
    (stays_none c.args.seq.now tables.0 none) (deletes clean base tables s so.1))
