use Rattle.std.proofs.Common.{◌++◌, refl}
use Rattle.wm_live.proofs.Stands.{ended-told, ended-untold, over-by, stopped-back, turned-told, turned-untold}
use Rattle.wm_live.specs.StandState.{StandState}
use Rattle.wm_texts.specs.Texts.{last_text}
use Rattle.wm_live.proofs.stand.Stand.end_turn.Goals as goal

-- ---- the run goes on

pub returns-in-Ok-clause-turned : goal.returns-in-Ok-clause-turned
returns-in-Ok-clause-turned g c =
    let i = c.self.inside in
    let old : StandState g.row.K.Denot g.row.B.Denot = record { table = i.table; places = i.bench; text = i.text.items } in
    let on = c.in-Go.ensures in
    rw (← c.self.view_is, c.in-Ok.ensures.ok)
    (turned-told g.K.Keeper.store g.B.Worker.kind_of c.args.ticket c.in-Go.next c.args.seat c.args.told old c.turn.new.self
    (rw (← c.self.view_is) at c.requires.under_way) on.answer on.roll c.requires.number c.requires.kind)

pub returns-in-Err-clause-turned : goal.returns-in-Err-clause-turned
returns-in-Err-clause-turned g c =
    let i = c.self.inside in
    let old : StandState g.row.K.Denot g.row.B.Denot = record { table = i.table; places = i.bench; text = i.text.items } in
    let on = c.in-Go.ensures in
    rw (← c.self.view_is, c.put_back.ensures, c.in-Err.ensures.err)
    (turned-untold g.K.Keeper.store g.B.Worker.kind_of c.args.ticket c.in-Go.next c.args.seat c.args.told old c.turn.new.self
    (rw (← c.self.view_is) at c.requires.under_way) on.answer on.roll c.requires.number c.requires.kind c.in-Err.trouble c.in-Err.ensures.memory)

-- ---- the run is over

pub returns-in-Ok-tell-clause-turned : goal.returns-in-Ok-tell-clause-turned
returns-in-Ok-tell-clause-turned g c =
    let i = c.self.inside in
    let old : StandState g.row.K.Denot g.row.B.Denot = record { table = i.table; places = i.bench; text = i.text.items } in
    let way = rw (← c.self.view_is) at c.requires.under_way in
    let t = c.turn.new.self in
    let over = over-by g.K.Keeper.store c.args.ticket c.args.told i.table t way.current c.turn.result c.in-Finished.is c.turn.ensures.answer
    c.turn.ensures.roll in
    rw (← c.self.view_is, c.in-Ok-tell.ensures.ok)
    (ended-told g.K.Keeper.store g.B.Worker.kind_of c.args.ticket c.args.seat c.args.told old
    (record old { table = t; places = c.give.new.self; text = i.text.items ++ last_text t.first t.log }) way over.finished over.roll c.requires.number
    c.requires.kind c.give.ensures refl)

pub returns-in-Err-tell-clause-turned : goal.returns-in-Err-tell-clause-turned
returns-in-Err-tell-clause-turned g c =
    let i = c.self.inside in
    let old : StandState g.row.K.Denot g.row.B.Denot = record { table = i.table; places = i.bench; text = i.text.items } in
    let way = rw (← c.self.view_is) at c.requires.under_way in
    let t = c.turn.new.self in
    let over = over-by g.K.Keeper.store c.args.ticket c.args.told i.table t way.current c.turn.result c.in-Finished.is c.turn.ensures.answer
    c.turn.ensures.roll in
    rw (← c.self.view_is, c.in-Err-tell.ensures.err)
    (ended-untold g.K.Keeper.store g.B.Worker.kind_of c.args.ticket c.args.seat c.args.told old (record old { table = t; places = c.give.new.self }) way
    over.finished over.roll c.requires.number c.requires.kind c.give.ensures c.in-Err-tell.trouble c.in-Err-tell.ensures.memory refl)

-- ---- the table had trouble

pub returns-in-Refused-clause-turned : goal.returns-in-Refused-clause-turned
returns-in-Refused-clause-turned g c =
    let i = c.self.inside in
    let old : StandState g.row.K.Denot g.row.B.Denot = record { table = i.table; places = i.bench; text = i.text.items } in
    let refused = c.in-Refused in
    rw (← c.self.view_is, c.put_back-in-Refused.ensures)
    (stopped-back g.K.Keeper.store g.B.Worker.kind_of c.args.ticket refused.ticket c.args.seat refused.trouble old (record old { table = c.turn.new.self })
    (rw (← c.self.view_is) at c.requires.under_way) c.requires.number c.requires.kind refused.ensures.answer.same_ticket refused.ensures.answer.untouched
    refl refl refused.ensures.roll)
