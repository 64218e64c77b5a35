use Rattle.std.proofs.Common.{◌≡◌, ap, arith, subst, sym, ◌∙◌}
use Rattle.wm_conditions.specs.Met.{met}
use Rattle.wm_conditions.proofs.Gathering.{all-set, meets, none-set, one-set, AreUpTo}
use Rattle.wm_conditions.proofs.tracker.bits_of.Goals as goal
use Rattle.wm_conditions.proofs.tracker.bits_of.Goals.{then-met, else-met}

pub loop-number-preserved : goal.loop-number-preserved
loop-number-preserved c =
    let d = c.args.conditions.now in
    let number = c.loop-number.number in
    let test : meets d number ≡ c.met.result = sym (c.met.ensures ∙ ap (λ k. met k d) c.constraints_of.ensures) in
    elim c.if-met.branch [
      | then-met w ↦ rw w.bits-is (one-set (meets d) number c.loop-number.bits (omega (arith, c.loop-number-test.true)) c.loop-number.invariant (test ∙ w.if-met.true))
      | else-met w ↦ rw w.bits-is (none-set (meets d) number c.loop-number.bits c.loop-number.invariant (test ∙ w.if-met.false))
    ]

pub returns : goal.returns
returns c =
    let d = c.args.conditions.now in
    let all : c.loop-number.number ≡ 80 = omega (arith, c.loop-number-test.false, c.loop-number.auto.number-end) in
    all-set d c.loop-number.bits (subst (λ count. AreUpTo (meets d) count c.loop-number.bits) all c.loop-number.invariant)
