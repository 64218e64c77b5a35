-- Items read one by one.
use Rattle.std.proofs.Common.{◌≡◌, Option, None, Some, refl, sym, take_all, arith}
use Rattle.wm_data.proofs.ItemLists.{AreRead-more, list_in-all, list_in-none}
use Rattle.wm_data.proofs.element.list_from_json.Goals as goal

none_is : {T : Type 0} (o : Option T) → ((x : T) → o ≡ Some x → ⊥) → o ≡ None
none_is None h = refl
none_is (Some x) h = absurd (h x refl)

pub returns-in_default-2 : goal.returns-in_default-2
returns-in_default-2 g c =
    list_in-none g.T.Element.reading _ c.deref-value-items.result.now c.loop-value.value-index c.value-item.result
    (rw c.deref-value-items.ensures.value (sym c.in-Some.ensures)) (omega arith)
    (rw (← c.value-item.is, ← c.in_ok-element.ensures) (none_is _ c.in_default-2.not-Some))

pub loop-value-preserved : goal.loop-value-preserved
loop-value-preserved g c =
    rw c.in_ok-push.ensures.ok
    (AreRead-more g.T.Element.reading c.deref-value-items.result.now c.loop-value.value-index c.value-item.result _ c.in-Some-2.element (omega arith)
    c.loop-value.invariant (rw (← c.value-item.is, ← c.in_ok-element.ensures) c.in-Some-2.is))

pub returns : goal.returns
returns g c =
    list_in-all g.T.Element.reading _ c.deref-value-items.result.now _ (rw c.deref-value-items.ensures.value (sym c.in-Some.ensures))
    (rw (take_all c.loop-value.value-index c.deref-value-items.result.now c.loop-value-test.false) at c.loop-value.invariant)
