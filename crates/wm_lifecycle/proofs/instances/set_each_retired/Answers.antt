use Rattle.std.proofs.Common.{◌≡◌, true, false, set, sym, ◌∙◌, ap}
use Rattle.std.specs.Str.{bytes_eq}
use Rattle.std.proofs.lemmas.List.Edits.{map_over_more}
use Rattle.wm_machine.proofs.Retirings.{retired_in}
use Rattle.wm_machine.specs.Retired.{made_retired}
use Rattle.wm_machine.specs.declared.state.Instance.{Instance}
use Rattle.wm_lifecycle.proofs.instances.set_each_retired.Goals as goal
use Rattle.wm_lifecycle.proofs.instances.set_each_retired.Goals.{then-eq, else-eq}

pub loop-instance-preserved : goal.loop-instance-preserved
loop-instance-preserved c =
    let now = c.loop-instance.instances in
    let i = c.loop-instance.instance-index in
    let x = c.instance-item.result in
    let class = c.args.class.now in
    let more = map_over_more (retired_in class) c.args.instances.now now i x c.loop-instance-test.true c.loop-instance.invariant c.instance-item.is in
    let test : c.eq.result ≡ bytes_eq x.class class = c.eq.ensures.eq ∙ ap (λ (y : Instance). bytes_eq y.class class) (sym c.instance-item.is) in
    elim c.if-eq.branch [
      | then-eq w ↦
          let hit : bytes_eq x.class class ≡ true = sym test ∙ w.if-eq.true in
          w.instances-is ∙ ap (λ (y : Instance). set now i (made_retired y)) (sym c.instance-item.is) ∙ (rw hit at more)
      | else-eq w ↦
          let miss : bytes_eq x.class class ≡ false = sym test ∙ w.if-eq.false in
          w.instances-is ∙ ap (set now i) (sym c.instance-item.is) ∙ (rw miss at more)
    ]
