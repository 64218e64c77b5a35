-- What `==` tells of Data: whether they are the same.
use Rattle.std.proofs.Common.{◌≡◌, true, true≢false, List, Decides, ap, sym, ◌∙◌}
use Rattle.std.specs.Cmp.{booleans_Decides, signed_Decides, first_so, second_so}
use Rattle.std.specs.Cmp.Lexicographic.{pointwise, pointwise_decides, bytes_decides}
use Rattle.wm_data.specs.contracts.data.DataEntryEq.TheImpl.Laws.{laws-law}
use Rattle.wm_data.specs.contracts.data.DataEntryPartialEq.TheImpl as entries
use Rattle.wm_data.specs.contracts.value.ValuePartialEq.TheImpl as values
use Rattle.wm_data.specs.declared.data.DataEntry.{DataEntry}
use Rattle.wm_data.specs.declared.value.Value.{Value}
use Rattle.wm_data.specs.declared.value.Value.TheVariants as value

same_value : (a b : Value) → values.eq-value.it a b ≡ true → a ≡ b
same_value (value.Bool x) (value.Bool y) e = ap value.Bool ((booleans_Decides x y).0 e)
same_value (value.Byte x) (value.Byte y) e = ap value.Byte ((signed_Decides x y).0 e)
same_value (value.Int x) (value.Int y) e = ap value.Int ((signed_Decides x y).0 e)
same_value (value.Long x) (value.Long y) e = ap value.Long ((signed_Decides x y).0 e)
same_value (value.Text x) (value.Text y) e = ap value.Text ((bytes_decides x y).0 e)
same_value (value.Bools x) (value.Bools y) e = ap value.Bools ((pointwise_decides booleans_Decides x y).0 e)
same_value (value.Bytes x) (value.Bytes y) e = ap value.Bytes ((pointwise_decides signed_Decides x y).0 e)
same_value (value.Ints x) (value.Ints y) e = ap value.Ints ((pointwise_decides signed_Decides x y).0 e)
same_value (value.Longs x) (value.Longs y) e = ap value.Longs ((pointwise_decides signed_Decides x y).0 e)
same_value (value.Texts x) (value.Texts y) e = ap value.Texts ((pointwise_decides bytes_decides x y).0 e)
same_value a b e = absurd (true≢false (sym e))

same_entry : (a b : DataEntry) → entries.eq-value.it a b ≡ true → a ≡ b
same_entry a b e i = record { key = (bytes_decides a.key b.key).0 (first_so _ _ e) i; value = same_value a.value b.value (second_so _ _ e) i }

pub data_decides : (xs ys : List DataEntry) → Decides (pointwise entries.eq-value.it xs ys) (xs ≡ ys)
data_decides = pointwise_decides (λ a b. (same_entry a b, λ e. sym (ap (λ x. entries.eq-value.it a x) e) ∙ laws-law.refl a))
