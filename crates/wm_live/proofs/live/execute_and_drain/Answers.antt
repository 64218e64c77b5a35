use Rattle.std.proofs.Common.{refl, ap, ◌∙◌}
use Rattle.wm_collections.proofs.Lists.{last_of-push}
use Rattle.wm_collections.specs.Lists.{last_of}
use Rattle.wm_live.proofs.Commanded.{cut-refused, idle-commanded, if_refused, is_cut, is_executed}
use Rattle.wm_live.specs.StandState.{StandState}
use Rattle.wm_machine.specs.declared.event.Event.TheVariants as event
use Rattle.wm_live.proofs.live.execute_and_drain.Goals as goal

-- ---- it wasn't executed

pub returns-in_err-reply-clause-err : goal.returns-in_err-reply-clause-err
returns-in_err-reply-clause-err g c =
    let i = c.stand.inside in
    let old : StandState g.row.K.Denot g.row.B.Denot = record { table = i.table; places = i.bench; text = i.text.items } in
    let refused = c.in_err-reply.ensures in
    rw (← c.stand.view_is)
    (if_refused c.from_residual.result (λ trouble. cut-refused g.K.Keeper.store g.B.Worker.kind_of c.args.line c.args.command trouble old
    (record old { table = c.command.new.self }) (rw (← c.stand.view_is) at c.requires.rest) refused.err refl refused.roll))

-- ---- it was

pub tell_and_drain-requires : goal.tell_and_drain-requires
tell_and_drain-requires g c =
    let i = c.stand.inside in
    let old : StandState g.row.K.Denot g.row.B.Denot = record { table = i.table; places = i.bench; text = i.text.items } in
    let done = c.in_ok-reply.ensures in
    let reply = c.in_ok-reply.reply in
    let last = ap last_of done.ok.appended ∙ last_of-push i.table.log (event.Command c.args.line c.args.command reply) in
    idle-commanded g.K.Keeper.store g.B.Worker.kind_of c.args.line c.args.command reply old c.command.new.self c.retire_last.new.bench
    (rw (← c.stand.view_is) at c.requires.rest) done.ok done.roll (c.retire_last.ensures c.args.line c.args.command reply last)

pub returns-in-Ok-clause-ok : goal.returns-in-Ok-clause-ok
returns-in-Ok-clause-ok g c =
    let i = c.stand.inside in
    let old : StandState g.row.K.Denot g.row.B.Denot = record { table = i.table; places = i.bench; text = i.text.items } in
    let done = c.in_ok-reply.ensures in
    let reply = c.in_ok-reply.reply in
    let last = ap last_of done.ok.appended ∙ last_of-push i.table.log (event.Command c.args.line c.args.command reply) in
    rw (← c.stand.view_is)
    (is_executed g.K.Keeper.store g.B.Worker.kind_of c.args.line c.args.command reply old c.command.new.self c.retire_last.new.bench
    (rw (← c.stand.view_is) at c.requires.rest) done.ok done.roll (c.retire_last.ensures c.args.line c.args.command reply last)
    c.tell_and_drain.new.stand c.in-Ok.ensures.drained)

pub returns-in-Err-clause-err : goal.returns-in-Err-clause-err
returns-in-Err-clause-err g c =
    let i = c.stand.inside in
    let old : StandState g.row.K.Denot g.row.B.Denot = record { table = i.table; places = i.bench; text = i.text.items } in
    let done = c.in_ok-reply.ensures in
    let reply = c.in_ok-reply.reply in
    let last = ap last_of done.ok.appended ∙ last_of-push i.table.log (event.Command c.args.line c.args.command reply) in
    rw (← c.stand.view_is)
    (is_cut g.K.Keeper.store g.B.Worker.kind_of c.args.line c.args.command reply old c.command.new.self c.retire_last.new.bench
    (rw (← c.stand.view_is) at c.requires.rest) done.ok done.roll (c.retire_last.ensures c.args.line c.args.command reply last)
    c.in-Err.trouble c.tell_and_drain.new.stand c.in-Err.ensures.drained)
