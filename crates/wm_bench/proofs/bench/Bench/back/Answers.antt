use Rattle.std.proofs.Common.{◌≡◌, ◌++◌, [], ◌∷◌, List, sym, ◌∙◌, ap, arith, append_assoc, rules}
use Rattle.std.proofs.lemmas.List.{length_push}
use Rattle.std.specs.Vec.Iter.{into_iter_items}
use Rattle.wm_bench.proofs.Hands.{idle_hands-away, idle_hands-idle}
use Rattle.wm_bench.specs.declared.place.Place.{Place}
use Rattle.wm_bench.proofs.bench.Bench.back.Goals as goal
use Rattle.wm_bench.proofs.bench.Bench.back.Goals.{In-Some}

-- this place is the first of those that are left
left_with : (g : _) (c : In-Some g) → (c.places.yielded ++ c.in-Some.place ∷ []) ++ into_iter_items c.next.new.self ≡ c.args.self
left_with g c =
    let steps : into_iter_items c.places.place-iterator ≡ c.in-Some.place ∷ into_iter_items c.next.new.self = search rules in
    append_assoc c.places.yielded (c.in-Some.place ∷ []) (into_iter_items c.next.new.self)
    ∙ ap (λ (rest : List (Place g.row.B.Denot)). c.places.yielded ++ rest) (sym steps) ∙ c.places.invariant.left

pub places-preserved-in-Some-into_hand : goal.places-preserved-in-Some-into_hand
places-preserved-in-Some-into_hand g c =
    let kept = c.places.invariant in
    record {
      hands =
          rw (c.push_reserved.ensures.items, kept.hands)
          (sym (idle_hands-idle c.places.yielded c.in-Some.place c.in-Some-into_hand.hand (sym c.into_hand.ensures ∙ c.in-Some-into_hand.is)));
      few = omega (arith, length_push c.places.yielded c.in-Some.place, c.push_reserved.ensures.len, kept.few);
      left = left_with g (goal.at.places-preserved-in-Some-into_hand g c).In-Some;
      room = omega (arith, c.push_reserved.ensures.capacity, kept.room);
    }

pub places-preserved : goal.places-preserved
places-preserved g c =
    let kept = c.places.invariant in
    record {
      hands = kept.hands ∙ sym (idle_hands-away c.places.yielded c.in-Some.place (sym c.into_hand.ensures ∙ c.in_default.is));
      few = omega (arith, length_push c.places.yielded c.in-Some.place, kept.few);
      left = left_with g (goal.at.places-preserved g c).In-Some;
      room = kept.room;
    }
