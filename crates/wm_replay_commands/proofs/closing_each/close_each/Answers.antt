use Rattle.std.proofs.Common.{◌≡◌, ℕ, ◌+◌, List, ◌∷◌, drop, get_or, sym, ◌∙◌, ap, subst}
use Rattle.std.proofs.lemmas.List.{drop_more}
use Rattle.wm_replay_runs.proofs.Closings.{in_order-closed}
use Rattle.wm_collections.specs.Lists.{AllLater}
use Rattle.wm_machine.specs.Closed.{with_work_closed, with_works_closed}
use Rattle.wm_machine.specs.Valid.{IsBefore}
use Rattle.wm_machine.specs.declared.state.State.{State}
use Rattle.wm_replay_commands.proofs.closing_each.close_each.Goals as goal

pub loop-seq-preserved : goal.loop-seq-preserved
loop-seq-preserved c =
    let seqs = c.args.seqs.now in
    let how = c.args.how in
    let before = c.loop-seq.state in
    let i = c.loop-seq.seq-index in
    let seq = get_or seqs i 0 in
    let next : drop i seqs ≡ seq ∷ drop (i + 1) seqs = drop_more seqs i 0 c.loop-seq-test.true in
    let made : c.close.new.state ≡ with_work_closed how seq before = c.in_ok-close.ensures in
    record {
      left = ap (with_works_closed how (drop (i + 1) seqs)) made ∙ sym (ap (λ (ns : List ℕ). with_works_closed how ns before) next)
          ∙ c.loop-seq.invariant.left;
      in_order = subst (λ (s : State). AllLater IsBefore s.works) (sym made) (in_order-closed how before.now seq before.works c.loop-seq.invariant.in_order);
    }
