use Rattle.sqlite_trees.specs.Tree.{Trees}
use Rattle.sqlite.specs.Held.{state}
use Rattle.std.proofs.Common.{◌≡◌, List, IsTrue, sym, ap, ◌∙◌, subst, rules, inl, inr}
use Rattle.wm_keeper.specs.declared.row.Row.{Row}
use Rattle.wm_sqlite.proofs.Ended.{began-with, clean-at, failed-still, left-before, still-with, undone-still, StillRests}
use Rattle.wm_sqlite.proofs.Rests.{commits-with, on_err, on_err_map, on_ok_then, was-clean}
use Rattle.wm_sqlite.specs.Held.{all_rows, held_in, tables_in, Tables}
use Rattle.wm_sqlite.specs.Resting.{with_changes, RestsWith}
use Rattle.wm_sqlite.specs.Table.{both_schema}
use Rattle.wm_sqlite.proofs.changes.change_rows.Goals as goal

pub returns-in_err-make_changes-clause-err : goal.returns-in_err-make_changes-clause-err
returns-in_err-make_changes-clause-err g c clean up =
    let old = c.args.connection.now in
    let end = c.drop-transaction.new.self.0 in
    let same : end ≡ c.connection-1.given.0 = search rules in
    let still : StillRests g.A.Store old end =
    undone-still g.A.Store old c.transaction-transaction.result.conn c.make_changes.new.transaction.conn c.transaction-transaction.ensures.begun
    c.make_changes.result end c.make_changes.ensures.step (λ late. was-clean c.drop-transaction.ensures.survives.clean late) c.drop-transaction.ensures.undone in
    let rest : (rows : List Row) → RestsWith g.A.Store c.args.spread rows old → RestsWith g.A.Store c.args.spread rows c.connection-1.given.0 = λ rows rests.
    still-with g.A.Store c.args.spread rows old _ (subst (StillRests g.A.Store old) same still clean up both_schema) rests in
    on_err _ rest

pub returns-clause-ok : goal.returns-clause-ok
returns-clause-ok g c clean =
    let old = c.args.connection.now in
    let base = (state g.A.Store old).committed in
    let mid = c.make_changes.new.transaction.conn.now in
    let end = c.commit.new.self.0 in
    let same : end ≡ c.connection-2-1.given.0 = search rules in
    let late = clean-at g.A.Store same clean in
    on_ok_then c.commit.result (c.commit.ensures.ok late) (λ done rows rests.
    let holds = began-with g.A.Store old c.transaction-transaction.result.conn c.make_changes.new.transaction.conn c.transaction-transaction.ensures.begun c.args.spread rows rests in
    let made = c.in_ok-make_changes.ensures.step.ok (was-clean c.commit.ensures.survives.clean late) base rows holds in
    subst (RestsWith g.A.Store c.args.spread (with_changes c.args.changes.now rows)) same (commits-with g.A.Store c.args.spread base _ mid end made done.1))

pub returns-clause-err : goal.returns-clause-err
returns-clause-err g c clean up =
    let old = c.args.connection.now in
    let end = c.commit.new.self.0 in
    let same : end ≡ c.connection-2-1.given.0 = search rules in
    on_err_map c.commit.result
    (failed-still g.A.Store old c.transaction-transaction.result.conn c.make_changes.new.transaction.conn c.transaction-transaction.ensures.begun
    c.commit.result end c.in_ok-make_changes.ensures.step (λ late. was-clean c.commit.ensures.survives.clean late) c.commit.ensures.err)
    (λ still rows rests. still-with g.A.Store c.args.spread rows old _ (subst (StillRests g.A.Store old) same still clean up both_schema) rests)

pub returns-clause-crash : goal.returns-clause-crash
returns-clause-crash g c clean left may =
    let old = c.args.connection.now in
    let base = (state g.A.Store old).committed in
    let begun = c.transaction-transaction.ensures.begun in
    let same : c.commit.new.self.0 ≡ c.connection-2-1.given.0 = search rules in
    let late = clean-at g.A.Store same clean in
    let early = was-clean c.commit.ensures.survives.clean late in
    elim (c.commit.ensures.survives.crash late left (subst (λ h. (state g.A.Store h).may_leave left) (sym same) may)) [
      | inl before ↦ inl (
          left-before g.A.Store old c.transaction-transaction.result.conn c.make_changes.new.transaction.conn begun left
          c.make_changes.ensures.step early before
          )
      | inr is ↦ inr (
        subst (λ h. IsTrue (state g.A.Store h).is_open) begun (c.in_ok-make_changes.ensures.opened early),
        λ rows rests.
            let holds = began-with g.A.Store old c.transaction-transaction.result.conn c.make_changes.new.transaction.conn begun c.args.spread rows rests in
            let made = c.in_ok-make_changes.ensures.step.ok early base rows holds in
            ap (λ (t : Trees). held_in (all_rows (tables_in t))) is ∙ ap (λ (t : Tables). held_in (all_rows t)) made.stands.tables_are ∙ made.are_held.held,
      )
    ]
