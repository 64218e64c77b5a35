use Rattle.std.proofs.Common.{List, sym, subst}
use Rattle.std.specs.List.{list_any}
use Rattle.std.proofs.lemmas.List.{take_all}
use Rattle.wm_machine.specs.declared.record.Record.{Record}
use Rattle.wm_ready.specs.Entries.{Entry}
use Rattle.wm_steps.proofs.Pointwise.{put-all, put-more, put-some}
use Rattle.wm_steps.specs.Readied.{is_waiting_as, IsPutSome}
use Rattle.wm_steps.proofs.readying.put_placed.Goals as goal

pub loop-work-preserved : goal.loop-work-preserved
loop-work-preserved c =
    put-more (λ entry (r : Record). is_waiting_as c.args.classes.now entry r) c.args.placed.now c.loop-work.work-index c.work-item.result
    c.args.ready.now c.loop-work.ready c.put_waiting.new.ready c.loop-work-test.true c.work-item.is c.loop-work.invariant
    c.in_ok-put_waiting.ensures.ok

pub returns-clause-ok : goal.returns-clause-ok
returns-clause-ok c =
    put-all (λ entry (r : Record). is_waiting_as c.args.classes.now entry r) c.args.placed.now c.loop-work.work-index c.args.ready.now c.loop-work.ready
    (take_all c.loop-work.work-index c.args.placed.now c.loop-work-test.false) c.loop-work.invariant

pub returns-clause-some : goal.returns-clause-some
returns-clause-some c =
    put-some (λ entry (r : Record). is_waiting_as c.args.classes.now entry r) c.args.placed.now c.loop-work.work-index c.args.ready.now c.loop-work.ready c.loop-work.invariant

pub returns-in_err-put_waiting-clause-some : goal.returns-in_err-put_waiting-clause-some
returns-in_err-put_waiting-clause-some c =
    subst (λ (new : List Entry). IsPutSome (λ entry. list_any (λ (r : Record). is_waiting_as c.args.classes.now entry r) c.args.placed.now) c.args.ready.now new)
    (sym c.in_err-put_waiting.ensures.err)
    (put-some (λ entry (r : Record). is_waiting_as c.args.classes.now entry r) c.args.placed.now c.loop-work.work-index c.args.ready.now c.loop-work.ready c.loop-work.invariant)
