use Rattle.sqlite.specs.Held.{state}
use Rattle.sqlite_schema.specs.declared.schema.Schema.{Schema}
use Rattle.sqlite_trees.specs.Tree.{Trees}
use Rattle.std.proofs.Common.{◌≡◌, [], IsTrue, ap, sym, ◌∙◌, subst, rules, inl, inr}
use Rattle.wm_sqlite.proofs.Ended.{began, clean-at, failed-still, left-before, undone-still, StillRests}
use Rattle.wm_sqlite.proofs.Rests.{commits, on_err, on_err_map, on_ok_then, was-clean}
use Rattle.wm_sqlite.specs.Held.{tables_in, Tables}
use Rattle.wm_sqlite.specs.Resting.{IsIncomplete, Rests, RestsStill}
use Rattle.wm_sqlite.specs.Standing.{StandsWith}
use Rattle.wm_sqlite.specs.Table.{both_schema, no_schema, work_schema}
use Rattle.wm_sqlite.proofs.table.make_tables.Goals as goal

pub returns-in_err-make_both-clause-unmade : goal.returns-in_err-make_both-clause-unmade
returns-in_err-make_both-clause-unmade g c clean up =
    let old = c.args.connection.now in
    let end = c.drop-transaction.new.self.0 in
    let same : end ≡ c.connection-1.given.0 = search rules in
    let still : StillRests g.A.Store old end =
    undone-still g.A.Store old c.transaction-transaction.result.conn c.make_both.new.transaction.conn c.transaction-transaction.ensures.begun
    c.make_both.result end c.make_both.ensures.step (λ late. was-clean c.drop-transaction.ensures.survives.clean late) c.drop-transaction.ensures.undone in
    let rest : (schema : Schema) → IsIncomplete schema → RestsStill g.A.Store schema old c.connection-1.given.0 = λ schema is.
    subst (StillRests g.A.Store old) same still clean up schema in
    on_err _ rest

pub returns-clause-made : goal.returns-clause-made
returns-clause-made g c clean =
    let old = c.args.connection.now in
    let base = (state g.A.Store old).committed in
    let mid = c.make_both.new.transaction.conn in
    let end = c.commit.new.self.0 in
    let same : end ≡ c.connection-2-1.given.0 = search rules in
    let late = clean-at g.A.Store same clean in
    on_ok_then c.commit.result (c.commit.ensures.ok late) (λ done rests.
    let stands = c.in_ok-make_both.ensures.step.ok.made (was-clean c.commit.ensures.survives.clean late) base
    (began g.A.Store old c.transaction-transaction.result.conn mid c.transaction-transaction.ensures.begun no_schema rests) in
    subst (λ h. Rests g.A.Store both_schema h × (tables_in (state g.A.Store h).now.trees ≡ ([], []))) same
    (commits g.A.Store base ([], []) mid.now end stands done.1))

pub returns-clause-completed : goal.returns-clause-completed
returns-clause-completed g c clean =
    let old = c.args.connection.now in
    let base = (state g.A.Store old).committed in
    let begun = c.transaction-transaction.ensures.begun in
    let mid = c.make_both.new.transaction.conn in
    let end = c.commit.new.self.0 in
    let same : end ≡ c.connection-2-1.given.0 = search rules in
    let late = clean-at g.A.Store same clean in
    on_ok_then c.commit.result (c.commit.ensures.ok late) (λ done rests.
    let stands = subst (λ h. StandsWith g.A.Store base ((state g.A.Store h).now.trees 0, []) mid.now) begun
    (c.in_ok-make_both.ensures.step.ok.completed (was-clean c.commit.ensures.survives.clean late) base
    (began g.A.Store old c.transaction-transaction.result.conn mid begun work_schema rests)) in
    subst (λ h. Rests g.A.Store both_schema h × (tables_in (state g.A.Store h).now.trees ≡ ((state g.A.Store old).now.trees 0, []))) same
    (commits g.A.Store base ((state g.A.Store old).now.trees 0, []) mid.now end stands done.1))

pub returns-clause-unmade : goal.returns-clause-unmade
returns-clause-unmade g c clean up =
    let old = c.args.connection.now in
    let end = c.commit.new.self.0 in
    let same : end ≡ c.connection-2-1.given.0 = search rules in
    on_err_map c.commit.result
    (failed-still g.A.Store old c.transaction-transaction.result.conn c.make_both.new.transaction.conn c.transaction-transaction.ensures.begun
    c.commit.result end c.in_ok-make_both.ensures.step (λ late. was-clean c.commit.ensures.survives.clean late) c.commit.ensures.err)
    (λ still schema is. subst (StillRests g.A.Store old) same still clean up schema)

pub returns-clause-crash : goal.returns-clause-crash
returns-clause-crash g c clean left may =
    let old = c.args.connection.now in
    let base = (state g.A.Store old).committed in
    let begun = c.transaction-transaction.ensures.begun in
    let mid = c.make_both.new.transaction.conn in
    let same : c.commit.new.self.0 ≡ c.connection-2-1.given.0 = search rules in
    let late = clean-at g.A.Store same clean in
    let early = was-clean c.commit.ensures.survives.clean late in
    elim (c.commit.ensures.survives.crash late left (subst (λ h. (state g.A.Store h).may_leave left) (sym same) may)) [
      | inl before ↦ inl (left-before g.A.Store old c.transaction-transaction.result.conn mid begun left c.make_both.ensures.step early before)
      | inr is ↦ inr (
        subst (λ h. IsTrue (state g.A.Store h).is_open) begun (c.in_ok-make_both.ensures.opened early),
        λ rests.
            let stands = subst (λ h. StandsWith g.A.Store base ((state g.A.Store h).now.trees 0, []) mid.now) begun
            (c.in_ok-make_both.ensures.step.ok.completed early base
            (began g.A.Store old c.transaction-transaction.result.conn mid begun work_schema rests)) in
            ap (λ (t : Trees). t 0) is ∙ ap (λ (t : Tables). t.0) stands.tables_are,
      )
    ]
