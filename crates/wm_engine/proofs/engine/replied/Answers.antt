use Rattle.std.proofs.Common.{◌≡◌, List, Ok, refl, sym, ◌∙◌, ap, subst}
use Rattle.std.proofs.lemmas.Result.{IfOk-weaker}
use Rattle.std.specs.Prelude.{IfOk, IsSome, Result, Some}
use Rattle.std.specs.declared.alloc.AllocError.{AllocError}
use Rattle.wm_machine.specs.declared.event.Event.{Event}
use Rattle.wm_machine.specs.declared.reply.Reply.{Reply}
use Rattle.wm_settings.specs.Builds.{IsExecuted}
use Rattle.wm_changes.specs.declared.change.StepChange.{StepChange}
use Rattle.wm_engine.proofs.Steps.{line-replied}
use Rattle.wm_engine.specs.Calls.{reply_in, IsReplied}
use Rattle.wm_engine.proofs.engine.replied.Goals as goal

pub reply_in-reply-requires : goal.reply_in-reply-requires
reply_in-reply-requires c = subst (λ (e : Event). IsSome (reply_in e)) (sym c.in_ok-change.ensures.event) refl

pub returns : goal.returns
returns c =
    let change = c.in_ok-change.change in
    let executed = c.in_ok-change.ensures in
    IfOk-weaker c.both.result (λ made. (made.0 ≡ change) × (c.reply_in-reply.result ≡ Ok made.1))
    (λ made. IsReplied c.args.view.now c.args.line c.args.command made.0 made.1)
    (λ made is. record {
      executed = subst (IsExecuted c.args.view.now c.args.line c.args.command) (sym is.0) executed;
      event_is = line-replied made.0.event c.args.line c.args.command executed.reply made.1
          (ap (λ (of : StepChange). of.event) is.0 ∙ executed.event)
          (ap (λ (of : StepChange). reply_in of.event) is.0
          ∙ subst (λ (r : Result Reply AllocError). IfOk r (λ reply. reply_in change.event ≡ Some reply)) is.1 c.reply_in-reply.ensures);
    }) c.both.ensures
