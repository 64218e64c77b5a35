use Rattle.std.proofs.Common.{List, sym, subst}
use Rattle.std.specs.List.{list_any}
use Rattle.std.proofs.lemmas.List.{take_all}
use Rattle.wm_changes.specs.declared.change.Replacement.{Replacement}
use Rattle.wm_ready.specs.Entries.{Entry}
use Rattle.wm_steps.proofs.Pointwise.{put-all, put-more, put-some}
use Rattle.wm_steps.specs.Readied.{is_waiting_as, IsPutSome}
use Rattle.wm_steps.proofs.readying.put_replaced.Goals as goal

pub loop-replacement-preserved : goal.loop-replacement-preserved
loop-replacement-preserved c =
    put-more (λ entry (r : Replacement). is_waiting_as c.args.classes.now entry r.work) c.args.replaced.now c.loop-replacement.replacement-index c.replacement-item.result
    c.args.ready.now c.loop-replacement.ready c.put_waiting.new.ready c.loop-replacement-test.true c.replacement-item.is c.loop-replacement.invariant
    c.in_ok-put_waiting.ensures.ok

pub returns-clause-ok : goal.returns-clause-ok
returns-clause-ok c =
    put-all (λ entry (r : Replacement). is_waiting_as c.args.classes.now entry r.work) c.args.replaced.now c.loop-replacement.replacement-index c.args.ready.now c.loop-replacement.ready
    (take_all c.loop-replacement.replacement-index c.args.replaced.now c.loop-replacement-test.false) c.loop-replacement.invariant

pub returns-clause-some : goal.returns-clause-some
returns-clause-some c =
    put-some (λ entry (r : Replacement). is_waiting_as c.args.classes.now entry r.work) c.args.replaced.now c.loop-replacement.replacement-index c.args.ready.now c.loop-replacement.ready c.loop-replacement.invariant

pub returns-in_err-put_waiting-clause-some : goal.returns-in_err-put_waiting-clause-some
returns-in_err-put_waiting-clause-some c =
    subst (λ (new : List Entry). IsPutSome (λ entry. list_any (λ (r : Replacement). is_waiting_as c.args.classes.now entry r.work) c.args.replaced.now) c.args.ready.now new)
    (sym c.in_err-put_waiting.ensures.err)
    (put-some (λ entry (r : Replacement). is_waiting_as c.args.classes.now entry r.work) c.args.replaced.now c.loop-replacement.replacement-index c.args.ready.now c.loop-replacement.ready c.loop-replacement.invariant)
