use Rattle.std.proofs.Common.{◌++◌, refl}
use Rattle.wm_live.proofs.Stands.{begun-told, begun-untold, claimed_idle, failed-told, failed-untold, stopped-rest}
use Rattle.wm_seating.proofs.PlacesChanged.{IsTaken-at}
use Rattle.wm_live.specs.StandState.{StandState}
use Rattle.wm_texts.specs.Texts.{last_text}
use Rattle.wm_live.proofs.stand.Stand.claim.Goals as goal

pub returns-in-Err-clause-claimed : goal.returns-in-Err-clause-claimed
returns-in-Err-clause-claimed g c =
    let i = c.self.inside in
    let old : StandState g.row.K.Denot g.row.B.Denot = record { table = i.table; places = i.bench; text = i.text.items } in
    rw (← c.self.view_is)
    (stopped-rest g.K.Keeper.store g.B.Worker.kind_of c.in-Err.trouble old (record old { table = c.claim.new.self }) (rw (← c.self.view_is) at c.requires)
    c.in-Err.ensures.err refl c.in-Err.ensures.roll refl)

-- ---- a run began

pub unreachable-requires : goal.unreachable-requires
unreachable-requires g c =
    let i = c.self.inside in
    let old : StandState g.row.K.Denot g.row.B.Denot = record { table = i.table; places = i.bench; text = i.text.items } in
    let run = rw (c.in-Ok-Some.field-0-is, c.in-Run.is) at c.in-Ok-Some.ensures.ok in
    claimed_idle g.K.Keeper.store g.B.Worker.kind_of c.in-Run.ticket old c.claim.new.self c.instance.result (rw (← c.self.view_is) at c.requires) run
    c.instance.ensures c.in_default.ensures.seat

pub returns-in-Ok-clause-claimed : goal.returns-in-Ok-clause-claimed
returns-in-Ok-clause-claimed g c =
    let i = c.self.inside in
    let old : StandState g.row.K.Denot g.row.B.Denot = record { table = i.table; places = i.bench; text = i.text.items } in
    let run = rw (c.in-Ok-Some.field-0-is, c.in-Run.is) at c.in-Ok-Some.ensures.ok in
    let roll = rw (c.in-Ok-Some.field-0-is, c.in-Run.is) at c.in-Ok-Some.ensures.roll in
    let taken = IsTaken-at c.in-Run.ticket c.instance.result c.in-Some.seat c.instance.ensures c.in-Some.ensures.seat c.in-Some.ensures.taken in
    rw (← c.self.view_is, c.in-Ok.ensures.ok)
    (begun-told g.K.Keeper.store g.B.Worker.kind_of c.in-Run.ticket c.in-Some.seat old c.claim.new.self c.take.new.self
    (rw (← c.self.view_is) at c.requires) run roll taken)

pub returns-in-Err-tell-clause-claimed : goal.returns-in-Err-tell-clause-claimed
returns-in-Err-tell-clause-claimed g c =
    let i = c.self.inside in
    let old : StandState g.row.K.Denot g.row.B.Denot = record { table = i.table; places = i.bench; text = i.text.items } in
    let run = rw (c.in-Ok-Some.field-0-is, c.in-Run.is) at c.in-Ok-Some.ensures.ok in
    let roll = rw (c.in-Ok-Some.field-0-is, c.in-Run.is) at c.in-Ok-Some.ensures.roll in
    let taken = IsTaken-at c.in-Run.ticket c.instance.result c.in-Some.seat c.instance.ensures c.in-Some.ensures.seat c.in-Some.ensures.taken in
    rw (← c.self.view_is, c.put_back.ensures, c.in-Err-tell.ensures.err)
    (begun-untold g.K.Keeper.store g.B.Worker.kind_of c.in-Run.ticket c.in-Some.seat old c.claim.new.self c.take.new.self
    (rw (← c.self.view_is) at c.requires) run roll taken c.in-Err-tell.trouble c.in-Err-tell.ensures.memory)

-- ---- a work couldn't start

pub returns-in-Ok-tell-clause-claimed : goal.returns-in-Ok-tell-clause-claimed
returns-in-Ok-tell-clause-claimed g c =
    let i = c.self.inside in
    let old : StandState g.row.K.Denot g.row.B.Denot = record { table = i.table; places = i.bench; text = i.text.items } in
    let failed = c.in-Failed in
    let t = c.claim.new.self in
    let step = rw (c.in-Ok-Some.field-0-is, failed.is) at c.in-Ok-Some.ensures.ok in
    let roll = rw (c.in-Ok-Some.field-0-is, failed.is) at c.in-Ok-Some.ensures.roll in
    rw (← c.self.view_is, c.in-Ok-tell.ensures.ok)
    (failed-told g.K.Keeper.store g.B.Worker.kind_of old (record old { table = t; text = i.text.items ++ last_text t.first t.log }) failed.seq failed.cause
    (rw (← c.self.view_is) at c.requires) step roll refl refl)

pub returns-in-Err-tell-2-clause-claimed : goal.returns-in-Err-tell-2-clause-claimed
returns-in-Err-tell-2-clause-claimed g c =
    let i = c.self.inside in
    let old : StandState g.row.K.Denot g.row.B.Denot = record { table = i.table; places = i.bench; text = i.text.items } in
    let failed = c.in-Failed in
    let untold = c.in-Err-tell-2 in
    let step = rw (c.in-Ok-Some.field-0-is, failed.is) at c.in-Ok-Some.ensures.ok in
    let roll = rw (c.in-Ok-Some.field-0-is, failed.is) at c.in-Ok-Some.ensures.roll in
    rw (← c.self.view_is, untold.ensures.err)
    (failed-untold g.K.Keeper.store g.B.Worker.kind_of old (record old { table = c.claim.new.self }) failed.seq failed.cause
    (rw (← c.self.view_is) at c.requires) step roll refl untold.trouble untold.ensures.memory refl)
