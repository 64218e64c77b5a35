use Rattle.std.proofs.Common.{◌≡◌, true, false, cond, set, sym, ◌∙◌, ap}
use Rattle.std.proofs.lemmas.List.Edits.{map_over_more}
use Rattle.wm_replay_runs.proofs.changing.change_each.Goals as goal
use Rattle.wm_replay_runs.proofs.changing.change_each.Goals.{then-is_meant+in_ok-make, else-is_meant}

pub loop-value-preserved : goal.loop-value-preserved
loop-value-preserved g c =
    let now = c.loop-value.values in
    let i = c.loop-value.value-index in
    let x = c.value-item.result in
    let change = c.args.change.now in
    let meant = g.C.Change.meant change in
    let made = g.C.Change.made change in
    let more =
    map_over_more (λ value. cond (meant value) (made value) value) c.args.values.now now i x c.loop-value-test.true c.loop-value.invariant c.value-item.is in
    let test : c.is_meant.result ≡ meant x = c.is_meant.ensures ∙ ap meant (sym c.value-item.is) in
    elim c.if-is_meant.branch [
      | then-is_meant+in_ok-make w ↦
          let hit : meant x ≡ true = sym test ∙ w.if-is_meant.true in
          w.values-is ∙ ap (set now i) (w.in_ok-make.ensures ∙ ap made (sym c.value-item.is)) ∙ (rw hit at more)
      | else-is_meant w ↦
          let miss : meant x ≡ false = sym test ∙ w.if-is_meant.false in
          w.values-is ∙ ap (set now i) (sym c.value-item.is) ∙ (rw miss at more)
    ]
