use Rattle.std.proofs.Common.{Some, None, sym, subst}
use Rattle.wm_callers_program.proofs.Settlings.{settled-quiet, settled-refused, settled-stopped}
use Rattle.wm_callers_program.specs.Drained.{IsSettled}
use Rattle.wm_callers_program.proofs.draining.settle.Goals as goal

pub returns-in-Some : goal.returns-in-Some
returns-in-Some g c =
    let store = g.K.Keeper.store in
    let kind_of = g.B.Worker.kind_of in
    let trouble = c.in-Some.trouble in
    subst (λ refused. IsSettled store kind_of refused (Some trouble) c.args.stand.now c.args.stand.now) (sym c.in-Some.is)
    (settled-refused store kind_of trouble c.args.stand.now c.requires)

pub returns-in-Ok : goal.returns-in-Ok
returns-in-Ok g c =
    let store = g.K.Keeper.store in
    let kind_of = g.B.Worker.kind_of in
    subst (λ refused. IsSettled store kind_of refused None c.args.stand.now c.drain_at.new.stand) (sym c.in-None.is)
    (settled-quiet store kind_of c.args.stand.now c.drain_at.new.stand c.in-Ok.ensures.drained)

pub returns-in-Err : goal.returns-in-Err
returns-in-Err g c =
    let store = g.K.Keeper.store in
    let kind_of = g.B.Worker.kind_of in
    let trouble = c.in-Err.trouble in
    subst (λ refused. IsSettled store kind_of refused (Some trouble) c.args.stand.now c.drain_at.new.stand) (sym c.in-None.is)
    (settled-stopped store kind_of trouble c.args.stand.now c.drain_at.new.stand c.in-Err.ensures.drained c.in-Err.ensures.cause)
