use Rattle.std.proofs.Common.{Vec, Global, sym, subst, rules}
use Rattle.wm_beginning.proofs.Begins.{not_begun-unopened}
use Rattle.wm_beginning.proofs.Unbegun.{EarlyCause-keeper}
use Rattle.wm_beginning.specs.NotBegun.{EarlyCause}
use Rattle.wm_ended.specs.declared.status.Status.TheVariants as status
use Rattle.wm_keeper.specs.Store.{told_before}
use Rattle.wm_keeper.specs.declared.row.Row.{Row}
use Rattle.wm_seating.specs.Hands.{instances_from}
use Rattle.wm_beginning.proofs.loading.load.Goals as goal

-- the keeper failed, or was refused memory
pub returns-in-Err-clause-not_begun : goal.returns-in-Err-clause-not_begun
returns-in-Err-clause-not_begun g c =
    let store = g.K.Keeper.store in
    let before = store c.args.keeper in
    let now = store c.load.new.self in
    let held = told_before before.rows now.rows in
    rw c.before_opening.ensures
    (not_begun-unopened store (instances_from g.B.Worker.kind_of 0 c.args.hands.items) held c.args.keeper c.load.new.self c.args.sink c.args.hands
    c.from-status.result
    (subst (λ why. EarlyCause why before.faults now.faults held) (sym c.from-status.ensures)
    (EarlyCause-keeper (Vec Row Global) c.in-Err.fault before.faults now.faults held c.in-Err.ensures.cause))
    c.load.ensures.kept c.load.ensures.telling)

-- memory was refused
pub returns-in_default-clause-not_begun : goal.returns-in_default-clause-not_begun
returns-in_default-clause-not_begun g c =
    let store = g.K.Keeper.store in
    rw c.before_opening-in_default.ensures
    (not_begun-unopened store (instances_from g.B.Worker.kind_of 0 c.args.hands.items)
    (told_before (store c.args.keeper).rows (store c.load.new.self).rows) c.args.keeper c.load.new.self c.args.sink c.args.hands status.Memory tt
    c.load.ensures.kept c.load.ensures.telling)
