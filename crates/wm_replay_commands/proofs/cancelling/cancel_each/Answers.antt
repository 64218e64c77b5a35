use Rattle.std.proofs.Common.{◌≡◌, ℕ, List, ◌∙◌, ap, rules}
use Rattle.wm_machine.specs.Cancelled.{count_reached, targeted}
use Rattle.wm_replay_commands.proofs.Commands.{outcome-is}
use Rattle.wm_machine.specs.Closed.{with_works_closed}
use Rattle.wm_machine.specs.declared.record.How.TheVariants.{Cancelled}
use Rattle.wm_machine.specs.declared.reply.Reply.TheVariants as reply
use Rattle.wm_replay_commands.proofs.cancelling.cancel_each.Goals as goal

pub returns : goal.returns
returns c =
    let s = c.args.state.now in
    let seqs : c.as_slice-2.result.now ≡ targeted c.args.target.now s.works = search rules in
    outcome-is _ _ _
    (ap reply.Cancelled (c.in_ok-count.ensures.count ∙ ap (λ (ns : List ℕ). count_reached ns s.works) seqs))
    (c.in_ok-count.ensures.state ∙ ap (λ (ns : List ℕ). with_works_closed Cancelled ns s) seqs)
