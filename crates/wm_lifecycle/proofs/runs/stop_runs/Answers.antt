use Rattle.std.proofs.Common.{◌≡◌, true, false, set, sym, ◌∙◌, ap}
use Rattle.std.proofs.lemmas.List.Edits.{map_over_more}
use Rattle.wm_collections.specs.Lists.{is_among}
use Rattle.wm_machine.proofs.Stops.{stopped_in}
use Rattle.wm_machine.specs.Runs.{stopped}
use Rattle.wm_machine.specs.declared.state.Run.{Run}
use Rattle.wm_lifecycle.proofs.runs.stop_runs.Goals as goal
use Rattle.wm_lifecycle.proofs.runs.stop_runs.Goals.{then-is_among, else-is_among}

pub loop-run-preserved : goal.loop-run-preserved
loop-run-preserved c =
    let now = c.loop-run.runs in
    let i = c.loop-run.run-index in
    let x = c.run-item.result in
    let numbers = c.args.numbers.now in
    let more =
    map_over_more (stopped_in (λ (run : Run). is_among numbers run.run)) c.args.runs.now now i x c.loop-run-test.true c.loop-run.invariant c.run-item.is in
    let test : c.is_among.result ≡ is_among numbers x.run = c.is_among.ensures ∙ ap (λ (y : Run). is_among numbers y.run) (sym c.run-item.is) in
    elim c.if-is_among.branch [
      | then-is_among w ↦
          let hit : is_among numbers x.run ≡ true = sym test ∙ w.if-is_among.true in
          w.runs-is ∙ ap (λ (y : Run). set now i (stopped y)) (sym c.run-item.is) ∙ (rw hit at more)
      | else-is_among w ↦
          let miss : is_among numbers x.run ≡ false = sym test ∙ w.if-is_among.false in
          w.runs-is ∙ ap (set now i) (sym c.run-item.is) ∙ (rw miss at more)
    ]
