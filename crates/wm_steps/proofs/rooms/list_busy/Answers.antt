use Rattle.std.proofs.Common.{ℕ, cond, [], ◌∷◌, ◌++◌, Vec, Global, vec_len, vec_capacity, arith, sym, ◌∙◌, ap, subst}
use Rattle.std.proofs.lemmas.List.{take_all}
use Rattle.wm_machine.specs.First.{has_room}
use Rattle.wm_steps.proofs.BusyClasses.{busy-step, listed-busy}
use Rattle.wm_steps.specs.Readied.{busy_from, AreBusy}
use Rattle.wm_steps.proofs.rooms.list_busy.Goals as goal
use Rattle.wm_steps.proofs.rooms.list_busy.Goals.{then-not-has_room, else-not-has_room}

pub loop-class-preserved : goal.loop-class-preserved
loop-class-preserved c =
    let names = c.args.classes.now in
    let instances = c.args.instances.now in
    let room = c.has_room.ensures ∙ ap (has_room instances) c.as_str.ensures in
    let step = busy-step instances names c.loop-class.class-index c.class-item.result c.loop-class.number c.loop-class.busy.items c.if-not-has_room.busy.items
    c.has_room.result c.loop-class-test.true c.class-item.is c.loop-class.invariant.1 c.loop-class.invariant.0 room in
    elim c.if-not-has_room.branch [
      | then-not-has_room w ↦ (
        step (ap (λ (v : Vec ℕ Global). v.items) w.busy-is ∙ w.push_reserved.ensures.items
            ∙ sym (ap (λ b. cond b c.loop-class.busy.items (c.loop-class.busy.items ++ c.loop-class.number ∷ [])) w.if-not-has_room.true)),
        omega (arith, c.loop-class.invariant.1),
        omega (arith, ap (λ (v : Vec ℕ Global). vec_len v) w.busy-is, w.push_reserved.ensures.len, c.loop-class.invariant.2),
        ap (λ (v : Vec ℕ Global). vec_capacity v) w.busy-is ∙ w.push_reserved.ensures.capacity ∙ c.loop-class.invariant.3,
      )
      | else-not-has_room w ↦ (
        step (ap (λ (v : Vec ℕ Global). v.items) w.busy-is
            ∙ sym (ap (λ b. cond b c.loop-class.busy.items (c.loop-class.busy.items ++ c.loop-class.number ∷ [])) w.if-not-has_room.false)),
        omega (arith, c.loop-class.invariant.1),
        omega (arith, ap (λ (v : Vec ℕ Global). vec_len v) w.busy-is, c.loop-class.invariant.2),
        ap (λ (v : Vec ℕ Global). vec_capacity v) w.busy-is ∙ c.loop-class.invariant.3,
      )
    ]

pub returns-clause-busy : goal.returns-clause-busy
returns-clause-busy c =
    let names = c.args.classes.now in
    subst (λ busy. AreBusy names c.args.instances.now busy)
    (sym (c.loop-class.invariant.0 ∙ ap (busy_from 0 c.args.instances.now) (take_all c.loop-class.class-index names c.loop-class-test.false)))
    (listed-busy c.args.instances.now names c.requires.named)
