-- The workers that a run is given, once they come back.
use Rattle.std.proofs.Common.{◌≡◌, List, map, sym, ◌∙◌, ap, subst, Option}
use Rattle.wm_bench.specs.Places.{place_of}
use Rattle.wm_bench.specs.declared.hand.Hand.{Hand}
use Rattle.wm_machine.specs.Valid.{AreNumberedInOrder}
use Rattle.wm_machine.specs.declared.event.Event.{Event}
use Rattle.wm_machine.specs.declared.state.State.{State}
use Rattle.wm_seating.proofs.Hands.{in_order, NoneAway-hands, traits-places, idle_hands-places}
use Rattle.wm_seating.specs.Bench.{instance_traits}
use Rattle.wm_seating.specs.Hands.{instances_from}
use Rattle.wm_session.proofs.BoxLemmas.{boxes-given}
use Rattle.wm_session.proofs.HandLemmas.{EachBack-all}
use Rattle.wm_session.specs.Boxes.{EachBack, IsBoxAfter}
use Rattle.wm_session.specs.Ended.{AreBoxesBack, kept_numbers}
use Rattle.wm_worker.specs.declared.answer.Entry.{Entry}
use Rattle.wm_worker.specs.declared.kind.Kind.{Kind}

-- where the instances are still those of the workers that were given, each that comes back is the one that was given
pub AreBoxesBack-opened : {B : Type 0} (kind_of : B → Kind) (diary_of : B → Option (List Entry)) (log : List Event) (last : State) (hands back : List (Hand B))
    → last.instances ≡ instances_from kind_of 0 hands → back ≡ hands → AreBoxesBack diary_of hands log last back
AreBoxesBack-opened kind_of diary_of log last hands back is same =
    let numbered = subst (AreNumberedInOrder 0) (sym is) (in_order kind_of 0 hands) in
    let traits = traits-places kind_of 0 hands ∙ ap (map instance_traits) (sym is) in
    subst (EachBack (IsBoxAfter diary_of log) hands (kept_numbers last)) (idle_hands-places hands ∙ sym same)
    (EachBack-all (IsBoxAfter diary_of log) hands kind_of (map place_of hands) last numbered (NoneAway-hands hands) traits (boxes-given diary_of log hands))
