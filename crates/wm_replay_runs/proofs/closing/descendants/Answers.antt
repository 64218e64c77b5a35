use Rattle.std.proofs.Common.{◌≡◌, ◌||◌, true, false, [], ◌∷◌, ◌++◌, eqb, rules, sym, ◌∙◌, ap}
use Rattle.std.specs.List.{list_any}
use Rattle.wm_replay_runs.proofs.Closings.{descendants-more}
use Rattle.wm_collections.specs.Lists.{is_among}
use Rattle.wm_replay_runs.proofs.closing.descendants.Goals as goal
use Rattle.wm_replay_runs.proofs.closing.descendants.Goals.{then-joins+in_ok-push, else-joins}

pub loop-work-preserved : goal.loop-work-preserved
loop-work-preserved c =
    let work = c.work-item.result in
    let more =
    descendants-more c.args.seq c.args.works.now c.loop-work.work-index work c.loop-work.numbers c.loop-work-test.true c.work-item.is
    c.loop-work.invariant in
    let test : c.joins.result ≡ (eqb work.seq c.args.seq || list_any (is_among c.loop-work.numbers) work.prior) =
    c.joins.ensures ∙ ap (λ ns. eqb work.seq c.args.seq || list_any (is_among ns) work.prior) c.as_slice.ensures in
    elim c.if-joins.branch [
      | then-joins+in_ok-push w ↦
          let hit : (eqb work.seq c.args.seq || list_any (is_among c.loop-work.numbers) work.prior) ≡ true = sym test ∙ w.if-joins.true in
          let now : c.if-joins.numbers ≡ c.loop-work.numbers ++ work.seq ∷ [] = search rules in
          now ∙ (rw hit at more)
      | else-joins w ↦
          let miss : (eqb work.seq c.args.seq || list_any (is_among c.loop-work.numbers) work.prior) ≡ false = sym test ∙ w.if-joins.false in
          w.numbers-is ∙ (rw miss at more)
    ]
