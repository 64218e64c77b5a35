use Rattle.std.proofs.Common.{ℕ, ◌+◌, ◌++◌, List, [], ◌∷◌, length, take, arith, sym, ◌∙◌, ap, subst}
use Rattle.std.specs.List.{list_any}
use Rattle.std.specs.Str.{bytes_eq}
use Rattle.std.proofs.lemmas.List.{length-append}
use Rattle.wm_steps.proofs.BusyClasses.{named-more, named-new}
use Rattle.wm_steps.specs.Readied.{AreNamed}
use Rattle.wm_steps.proofs.rooms.classes_of.Goals as goal
use Rattle.wm_steps.proofs.rooms.classes_of.Goals.{then-not-is_named+in_ok-replica+in_ok-push, else-not-is_named}

pub loop-instance-preserved : goal.loop-instance-preserved
loop-instance-preserved c =
    let instances = c.args.instances.now in
    let instance = c.instance-item.result in
    let i = c.loop-instance.instance-index in
    elim c.if-not-is_named.branch [
      | then-not-is_named+in_ok-replica+in_ok-push w ↦
          (let new = w.classes-is ∙ w.in_ok-push.ensures.ok ∙ ap (λ class. c.loop-instance.classes ++ class ∷ []) w.in_ok-replica.ensures in (
            named-new c.loop-instance.classes c.if-not-is_named.classes instances i instance c.loop-instance-test.true c.instance-item.is
                c.loop-instance.invariant.0 new,
            omega (arith, ap length new, length-append c.loop-instance.classes (instance.class ∷ []), c.loop-instance.invariant.1),
          ))
      | else-not-is_named w ↦ (
        subst (λ (classes : List (List ℕ)). AreNamed classes (take (i + 1) instances)) (sym w.classes-is)
            (named-more c.loop-instance.classes instances i instance c.loop-instance-test.true c.instance-item.is c.loop-instance.invariant.0
            (ap (list_any (λ name. bytes_eq name instance.class)) (sym c.as_slice.ensures) ∙ sym c.is_named.ensures ∙ w.if-not-is_named.false)),
        omega (arith, ap length w.classes-is, c.loop-instance.invariant.1),
      )
    ]
