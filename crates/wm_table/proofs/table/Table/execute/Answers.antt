use Rattle.std.proofs.Common.{◌≡◌, ◌+◌, ◌≤◌, length, vec_capacity, ap, subst, arith}
use Rattle.std.proofs.lemmas.Result.{on_err_weaker, on_ok_weaker}
use Rattle.wm_engine.specs.Calls.{IsOneStep, IsUntouched}
use Rattle.wm_engine.specs.Engine.{beside}
use Rattle.wm_engine.specs.Images.{IsLine}
use Rattle.wm_machine.specs.declared.event.Event.TheVariants as event
use Rattle.wm_table.proofs.TableSteps.{kept-executed, kept-roomier, seen-roomier}
use Rattle.wm_table.proofs.table.Table.execute.Goals as goal

pub invariant_of-self-2 : goal.invariant_of-self-2
invariant_of-self-2 g c =
    let first = c.self.inside.first in
    let roomier = kept-roomier g.M.Mark.inputs first _ _ c.self.inside.log c.reserve.new.log c.self.invariant c.reserve.ensures.items c.reserve.ensures.capacity in
    let capacity = c.execute.ensures.capacity in
    let longs = ap length c.reserve.ensures.items in
    let runs_are = ap length c.runs-runs.ensures in
    let room = c.in_ok-reserve.ensures.room in
    kept-executed g.M.Mark.inputs g.K.Keeper.store first _ _ c.reserve.new.log c.execute.new.events roomier c.execute.ensures.noted
    (omega (arith, room, longs, runs_are, capacity)) c.execute.result c.args.line c.args.command _ c.execute.ensures.ok c.execute.ensures.err

pub returns-clause-ok : goal.returns-clause-ok
returns-clause-ok g c =
    let first = c.self.inside.first in
    let seen = seen-roomier first c.self.inside.engine c.self.inside.log.items c.reserve.new.log.items c.args.self.now c.self.view_is c.reserve.ensures.items in
    on_ok_weaker c.execute.result (λ is. let made = is first in
    (made.0, subst (λ t. IsOneStep g.K.Keeper.store (event.Command c.args.line c.args.command made.0) t (beside first c.execute.new.self c.execute.new.events.items)) seen made.1))
    c.execute.ensures.ok

pub returns-clause-err : goal.returns-clause-err
returns-clause-err g c =
    let first = c.self.inside.first in
    let seen = seen-roomier first c.self.inside.engine c.self.inside.log.items c.reserve.new.log.items c.args.self.now c.self.view_is c.reserve.ensures.items in
    on_err_weaker c.execute.result (λ same. subst (λ t. IsUntouched g.K.Keeper.store (IsLine c.args.line c.args.command) t (beside first c.execute.new.self c.execute.new.events.items)) seen (same first))
    c.execute.ensures.err
