use Rattle.std.proofs.Common.{◌≡◌, true, false, set, sym, ◌∙◌, ap}
use Rattle.std.proofs.lemmas.List.Edits.{map_over_more}
use Rattle.wm_machine.proofs.Owed.{renewed_in}
use Rattle.wm_machine.specs.Updated.{is_run_of, made_new}
use Rattle.wm_machine.specs.declared.state.Run.{Run}
use Rattle.wm_lifecycle.proofs.runs.renew_run.Goals as goal
use Rattle.wm_lifecycle.proofs.runs.renew_run.Goals.{then-is_run_of, else-is_run_of}

pub loop-run-preserved : goal.loop-run-preserved
loop-run-preserved c =
    let now = c.loop-run.runs in
    let i = c.loop-run.run-index in
    let x = c.run-item.result in
    let seq = c.args.seq in
    let more = map_over_more (renewed_in (is_run_of seq)) c.args.runs.now now i x c.loop-run-test.true c.loop-run.invariant c.run-item.is in
    let test : c.is_run_of.result ≡ is_run_of seq x = c.is_run_of.ensures ∙ ap (is_run_of seq) (sym c.run-item.is) in
    elim c.if-is_run_of.branch [
      | then-is_run_of w ↦
          let hit : is_run_of seq x ≡ true = sym test ∙ w.if-is_run_of.true in
          w.runs-is ∙ ap (λ (y : Run). set now i (made_new y)) (sym c.run-item.is) ∙ (rw hit at more)
      | else-is_run_of w ↦
          let miss : is_run_of seq x ≡ false = sym test ∙ w.if-is_run_of.false in
          w.runs-is ∙ ap (set now i) (sym c.run-item.is) ∙ (rw miss at more)
    ]
