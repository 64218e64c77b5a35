use Rattle.std.proofs.Common.{◌≡◌, ◌-◌, ◌≤◌, sym, ◌∙◌, ap, subst}
use Rattle.std.specs.List.{count_by}
use Rattle.wm_replay_commands.proofs.CancelCounts.{count-closed, count-fewer}
use Rattle.wm_machine.specs.Closed.{with_works_closed}
use Rattle.wm_machine.specs.Plan.{is_unfinished}
use Rattle.wm_machine.specs.declared.record.How.TheVariants.{Cancelled}
use Rattle.wm_machine.specs.declared.state.State.{State}
use Rattle.wm_replay_commands.proofs.cancelling.cancel_numbered.Goals as goal

pub overflow_sub-result : goal.overflow_sub-result
overflow_sub-result c =
    let s = c.args.state.now in
    let seqs = c.args.seqs.now in
    let before = c.count_unfinished-before.ensures ∙ ap (count_by is_unfinished) c.as_slice.ensures in
    let left = c.count_unfinished-left.ensures ∙ ap (count_by is_unfinished) c.as_slice-2.ensures
    ∙ ap (λ (then : State). count_by is_unfinished then.works) c.in_ok-close_each.ensures.closed in
    subst (λ n. c.count_unfinished-left.result ≤ n) (sym before)
    (subst (λ n. n ≤ count_by is_unfinished s.works) (sym left) (count-fewer Cancelled seqs s))

pub returns-clause-count : goal.returns-clause-count
returns-clause-count c =
    let s = c.args.state.now in
    let seqs = c.args.seqs.now in
    let first = c.count_unfinished-before.result in
    let last = c.count_unfinished-left.result in
    let before : first ≡ count_by is_unfinished s.works = c.count_unfinished-before.ensures ∙ ap (count_by is_unfinished) c.as_slice.ensures in
    let left : last ≡ count_by is_unfinished (with_works_closed Cancelled seqs s).works =
    c.count_unfinished-left.ensures ∙ ap (count_by is_unfinished) c.as_slice-2.ensures
    ∙ ap (λ (then : State). count_by is_unfinished then.works) c.in_ok-close_each.ensures.closed in
    ap (λ n. n - last) before ∙ ap (λ n. count_by is_unfinished s.works - n) left ∙ count-closed Cancelled seqs s
