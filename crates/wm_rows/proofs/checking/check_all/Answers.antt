use Rattle.std.proofs.Common.{◌≡◌, ℕ, List, ◌≤◌, drop, length, Ok, sym, ap, ◌∙◌, arith}
use Rattle.std.proofs.lemmas.List.{drop_all}
use Rattle.wm_keeper.specs.declared.row.Row.{Row}
use Rattle.wm_machine.specs.declared.record.Record.{Record}
use Rattle.wm_rows.proofs.StoreRead.{checked_rows, checked_works}
use Rattle.wm_rows.specs.Sound.{checked, checked_after}
use Rattle.wm_rows.proofs.checking.check_all.Goals as goal

-- no row is left after the loop
all_checked : (rows : List Row) (index : ℕ) (before works : List Record) → checked_after before (drop index rows) ≡ checked rows → length rows ≤ index
    → works ≡ before → checked rows ≡ Ok works
all_checked rows index before works so_far over same = sym so_far ∙ ap (checked_after before) (drop_all index rows over) ∙ ap Ok (sym same)

pub returns-clause-rows : goal.returns-clause-rows
returns-clause-rows c =
    let rows = c.args.rows.now in
    checked_rows rows c.into_works.result
    (all_checked rows c.loop-row.row-index c.loop-row.before c.into_works.result c.loop-row.invariant (omega (arith, c.loop-row-test.false))
    c.into_works.ensures)

pub returns-clause-works : goal.returns-clause-works
returns-clause-works c =
    let rows = c.args.rows.now in
    checked_works rows c.into_works.result
    (all_checked rows c.loop-row.row-index c.loop-row.before c.into_works.result c.loop-row.invariant (omega (arith, c.loop-row-test.false))
    c.into_works.ensures)
