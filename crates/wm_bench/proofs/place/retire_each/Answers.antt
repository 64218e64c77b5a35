use Rattle.std.proofs.Common.{◌≡◌, ◌+◌, get_or, set, sym, ◌∙◌, ap}
use Rattle.std.proofs.lemmas.List.Edits.{map_over_more}
use Rattle.std.proofs.lemmas.List.Sums.{count_by_more_no, count_by_more_yes}
use Rattle.wm_bench.proofs.Changes.{get_or-unchanged}
use Rattle.wm_bench.specs.Places.{is_idle_of, retired_at}
use Rattle.wm_bench.specs.declared.place.Place.{Place}
use Rattle.wm_bench.proofs.place.retire_each.Goals as goal
use Rattle.wm_bench.proofs.place.retire_each.Goals.{then-retire, else-retire}

pub loop-place-preserved : goal.loop-place-preserved
loop-place-preserved g c =
    let class = c.args.class.now in
    let places = c.args.places.now in
    let change = retired_at g.B.Worker.kind_of class in
    let test = is_idle_of {B = g.row.B.Denot} class in
    let now = c.loop-place.places in
    let i = c.loop-place.place-index in
    let x = c.place-item.result in
    let within = c.loop-place-test.true in
    let kept = c.loop-place.invariant in
    let dropped : test (get_or places i x) ≡ c.retire.result =
    ap test (sym (get_or-unchanged change places now i x within kept.places)) ∙ sym c.retire.ensures.dropped in
    record {
      places = ap (λ (place : Place g.row.B.Denot). set now i place) (c.retire.ensures.place ∙ ap change (sym c.place-item.is))
          ∙ map_over_more change places now i x within kept.places c.place-item.is;
      count = elim c.if-retire.branch [
        | then-retire w ↦
            w.dropped-is ∙ ap (λ n. n + 1) kept.count ∙ sym (count_by_more_yes test places i x within (dropped ∙ w.if-retire.true))
        | else-retire w ↦
            w.dropped-is ∙ kept.count ∙ sym (count_by_more_no test places i x within (dropped ∙ w.if-retire.false))
      ];
    }
