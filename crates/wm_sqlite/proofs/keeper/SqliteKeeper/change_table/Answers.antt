use Rattle.sqlite.specs.Held.{state}
use Rattle.std.proofs.Common.{sym, subst}
use Rattle.wm_keeper.proofs.Stores.{KeepsTelling-then}
use Rattle.wm_keeper.specs.Store.{IsNotCommitted, IsStoreKept, KeepsTelling}
use Rattle.wm_sqlite.proofs.Commits.{changed-known, changed-telling, changed-told, committed-after, committed-counted, refused-after, refused-counted, unchanged-known, unchanged-telling, unchanged-told}
use Rattle.wm_sqlite.proofs.Rests.{on_err, open-clean}
use Rattle.wm_sqlite.specs.Told.{store_of, told_of, IsLookedAt}
use Rattle.wm_sqlite.proofs.keeper.SqliteKeeper.change_table.Goals as goal

pub invariant_of-self : goal.invariant_of-self
invariant_of-self g c =
    let i = c.self.inside in
    let new = c.change_rows.new.connection in
    let looked : IsLookedAt i.standing = subst (λ k. IsLookedAt k.standing) (sym c.self.view_is) c.in_ok-alloc.ensures.looked in
    unchanged-known g.A.Store c.args.changes.now i.connection new c.requires (open-clean _ _ (g.met.A.Store.shut_if_dirty new.store))
    c.change_rows.ensures.was_open i.standing looked c.self.invariant (rw c.spread.ensures at c.in_err-change_rows.ensures.err)

pub returns-in_err-change_rows-clause-err : goal.returns-in_err-change_rows-clause-err
returns-in_err-change_rows-clause-err g c =
    let i = c.self.inside in
    let new = c.change_rows.new.connection in
    let before = store_of g.A.Store c.args.self.now in
    let between = told_of i.standing (state g.A.Store i.connection) i.faults in
    let now = told_of i.standing (state g.A.Store new) i.faults in
    let looked : IsLookedAt i.standing = subst (λ k. IsLookedAt k.standing) (sym c.self.view_is) c.in_ok-alloc.ensures.looked in
    let kept : IsStoreKept before between = subst (λ k. IsStoreKept before (store_of g.A.Store k)) (sym c.self.view_is) c.allocator.ensures.kept in
    let refused : IsNotCommitted c.args.changes.now before now =
    refused-after c.args.changes.now before between now kept
    (refused-counted c.args.changes.now i.standing i.standing (state g.A.Store i.connection) (state g.A.Store new) i.faults i.faults
    (unchanged-told g.A.Store c.args.changes.now i.connection new c.requires (open-clean _ _ (g.met.A.Store.shut_if_dirty new.store))
    c.change_rows.ensures.was_open i.standing looked c.self.invariant c.change_rows.ensures.clean (rw c.spread.ensures at c.in_err-change_rows.ensures.err)
    (rw c.spread.ensures at c.change_rows.ensures.crash))) in
    on_err _ refused

pub invariant_of-self-2 : goal.invariant_of-self-2
invariant_of-self-2 g c =
    let i = c.self.inside in
    let new = c.change_rows.new.connection in
    let looked : IsLookedAt i.standing = subst (λ k. IsLookedAt k.standing) (sym c.self.view_is) c.in_ok-alloc.ensures.looked in
    changed-known g.A.Store c.args.changes.now i.connection new c.requires (open-clean _ _ (g.met.A.Store.shut_if_dirty new.store))
    c.change_rows.ensures.was_open i.standing looked c.self.invariant (rw c.spread.ensures at c.in_ok-change_rows.ensures.ok)

pub returns-clause-ok : goal.returns-clause-ok
returns-clause-ok g c =
    let i = c.self.inside in
    let new = c.change_rows.new.connection in
    let before = store_of g.A.Store c.args.self.now in
    let between = told_of i.standing (state g.A.Store i.connection) i.faults in
    let now = told_of i.standing (state g.A.Store new) i.faults in
    let looked : IsLookedAt i.standing = subst (λ k. IsLookedAt k.standing) (sym c.self.view_is) c.in_ok-alloc.ensures.looked in
    let kept : IsStoreKept before between = subst (λ k. IsStoreKept before (store_of g.A.Store k)) (sym c.self.view_is) c.allocator.ensures.kept in
    committed-after c.args.changes.now before between now kept
    (committed-counted c.args.changes.now i.standing i.standing (state g.A.Store i.connection) (state g.A.Store new) i.faults i.faults
    (changed-told g.A.Store c.args.changes.now i.connection new c.requires (open-clean _ _ (g.met.A.Store.shut_if_dirty new.store))
    c.change_rows.ensures.was_open i.standing looked c.self.invariant c.in_ok-change_rows.ensures.opened (rw c.spread.ensures at c.in_ok-change_rows.ensures.ok)
    (λ left up may. g.met.A.Store.settled new.store left up may)))

pub returns-in_err-change_rows-clause-telling : goal.returns-in_err-change_rows-clause-telling
returns-in_err-change_rows-clause-telling g c =
    let i = c.self.inside in
    let new = c.change_rows.new.connection in
    let looked : IsLookedAt i.standing = subst (λ k. IsLookedAt k.standing) (sym c.self.view_is) c.in_ok-alloc.ensures.looked in
    let before = store_of g.A.Store c.args.self.now in
    let between = told_of i.standing (state g.A.Store i.connection) i.faults in
    let now = told_of i.standing (state g.A.Store new) i.faults in
    let telling : KeepsTelling before between =
    subst (λ k. KeepsTelling before (store_of g.A.Store k)) (sym c.self.view_is) c.allocator.ensures.telling in
    KeepsTelling-then before between now telling
    (unchanged-telling g.A.Store c.args.changes.now i.connection new c.requires (open-clean _ _ (g.met.A.Store.shut_if_dirty new.store))
    c.change_rows.ensures.was_open i.standing looked c.self.invariant (rw c.spread.ensures at c.in_err-change_rows.ensures.err) i.faults i.faults)

pub returns-clause-telling : goal.returns-clause-telling
returns-clause-telling g c =
    let i = c.self.inside in
    let new = c.change_rows.new.connection in
    let looked : IsLookedAt i.standing = subst (λ k. IsLookedAt k.standing) (sym c.self.view_is) c.in_ok-alloc.ensures.looked in
    let before = store_of g.A.Store c.args.self.now in
    let between = told_of i.standing (state g.A.Store i.connection) i.faults in
    let now = told_of i.standing (state g.A.Store new) i.faults in
    let telling : KeepsTelling before between =
    subst (λ k. KeepsTelling before (store_of g.A.Store k)) (sym c.self.view_is) c.allocator.ensures.telling in
    KeepsTelling-then before between now telling
    (changed-telling g.A.Store c.args.changes.now i.connection new c.requires (open-clean _ _ (g.met.A.Store.shut_if_dirty new.store))
    c.change_rows.ensures.was_open i.standing looked c.self.invariant (rw c.spread.ensures at c.in_ok-change_rows.ensures.ok) i.faults i.faults)
