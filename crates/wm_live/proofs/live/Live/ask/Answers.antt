use Rattle.std.proofs.Common.{Ok, Err, subst}
use Rattle.wm_live.proofs.Lives.{if_answered, is_asked}
use Rattle.wm_live.specs.Asking.{Came}
use Rattle.wm_live.specs.declared.live.Live.TheInside.{Inside}
use Rattle.wm_live.proofs.live.Live.ask.Goals as goal

pub returns-in-Ok-clause-ok : goal.returns-in-Ok-clause-ok
returns-in-Ok-clause-ok g c =
    let kept = rw c.self.view_is at c.self.invariant in
    let before = g.C.Clock.answers c.args.clock.now in
    let now = g.C.Clock.answers c.asked.new.clock in
    let come = Ok c.in-Ok.command in
    let its = subst (λ (i : Inside g.row.K.Denot g.row.B.Denot g.row.M.Denot). Came i.stand.table.state c.args.ask before now come) c.self-inside.view_is
    c.in-Ok.ensures.came in
    let came = rw c.self.view_is at its in
    if_answered c.execute.result
    (λ next answered. is_asked c.args.line c.args.ask before now come next.1 c.args.self next.0 kept.0.idle.valid kept.1 came answered) c.execute.ensures.ok

pub returns-in-Err-clause-ok : goal.returns-in-Err-clause-ok
returns-in-Err-clause-ok g c =
    let kept = rw c.self.view_is at c.self.invariant in
    let before = g.C.Clock.answers c.args.clock.now in
    let now = g.C.Clock.answers c.asked.new.clock in
    let come = Err c.in-Err.answer in
    let its = subst (λ (i : Inside g.row.K.Denot g.row.B.Denot g.row.M.Denot). Came i.stand.table.state c.args.ask before now come) c.self-inside.view_is
    c.in-Err.ensures.came in
    let came = rw c.self.view_is at its in
    if_answered c.answer.result
    (λ next answered. is_asked c.args.line c.args.ask before now come next.1 c.args.self next.0 kept.0.idle.valid kept.1 came answered) c.answer.ensures.ok
