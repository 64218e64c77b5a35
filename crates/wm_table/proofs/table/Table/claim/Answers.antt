use Rattle.std.proofs.Common.{◌≡◌, ◌+◌, ◌≤◌, length, vec_capacity, ap, subst, arith}
use Rattle.std.proofs.lemmas.Result.{on_err_weaker}
use Rattle.wm_engine.specs.Calls.{IsUntouched}
use Rattle.wm_engine.specs.Engine.{beside}
use Rattle.wm_engine.specs.Images.{IsNoLine}
use Rattle.wm_table.proofs.TableSteps.{kept-claimed, kept-roomier, seen-roomier}
use Rattle.wm_table.proofs.table.Table.claim.Goals as goal

pub invariant_of-self-2 : goal.invariant_of-self-2
invariant_of-self-2 g c =
    let first = c.self.inside.first in
    let roomier = kept-roomier g.M.Mark.inputs first _ _ c.self.inside.log c.reserve.new.log c.self.invariant c.reserve.ensures.items c.reserve.ensures.capacity in
    let capacity = c.claim.ensures.capacity in
    let longs = ap length c.reserve.ensures.items in
    let runs_are = ap length c.runs-runs.ensures in
    let room = c.in_ok-reserve.ensures.room in
    kept-claimed g.M.Mark.inputs g.K.Keeper.store first _ _ c.reserve.new.log c.claim.new.events roomier c.claim.ensures.noted
    (omega (arith, room, longs, runs_are, capacity)) c.claim.result _ c.claim.ensures.ok c.claim.ensures.err

pub returns-clause-err : goal.returns-clause-err
returns-clause-err g c =
    let first = c.self.inside.first in
    let seen = seen-roomier first c.self.inside.engine c.self.inside.log.items c.reserve.new.log.items c.args.self.now c.self.view_is c.reserve.ensures.items in
    on_err_weaker c.claim.result (λ same. subst (λ t. IsUntouched g.K.Keeper.store IsNoLine t (beside first c.claim.new.self c.claim.new.events.items)) seen (same first))
    c.claim.ensures.err
