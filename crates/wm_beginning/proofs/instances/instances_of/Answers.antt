use Rattle.std.proofs.Common.{◌≡◌, ◌+◌, [], ◌∷◌, ◌++◌, List, take, length, sym, ◌∙◌, ap, arith, rules}
use Rattle.std.proofs.lemmas.List.{take_more, length-take}
use Rattle.wm_bench.specs.declared.hand.Hand.{Hand}
use Rattle.wm_machine.specs.declared.state.Instance.{Instance}
use Rattle.wm_seating.proofs.Hands.{instances_from-push}
use Rattle.wm_seating.specs.Hands.{instance_of, instances_from}
use Rattle.wm_beginning.proofs.instances.instances_of.Goals as goal

pub loop-hand-preserved : goal.loop-hand-preserved
loop-hand-preserved g c =
    let kind_of = g.B.Worker.kind_of in
    let hands = c.args.hands.now in
    let hand = c.hand-item.result in
    let index = c.loop-hand.hand-index in
    let more : take (index + 1) hands ≡ take index hands ++ hand ∷ [] =
    take_more hands index hand c.loop-hand-test.true ∙ ap (λ (h : Hand g.row.B.Denot). take index hands ++ h ∷ []) (sym c.hand-item.is) in
    let pushed : c.push.new.self ≡ c.loop-hand.instances ++ instance_of kind_of index hand ∷ [] = search rules in
    let count : index ≡ 0 + length (take index hands) = omega (arith, length-take index hands) in
    record {
      instances =
          pushed
          ∙ ap (λ (is : List Instance). is ++ instance_of kind_of index hand ∷ []) c.loop-hand.invariant.instances
          ∙ ap (λ n. instances_from kind_of 0 (take index hands) ++ instance_of kind_of n hand ∷ []) count
          ∙ sym (instances_from-push kind_of 0 (take index hands) hand)
          ∙ ap (instances_from kind_of 0) (sym more);
      number = omega arith;
    }
