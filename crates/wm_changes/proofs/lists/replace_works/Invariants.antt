use Rattle.std.proofs.Common.{◌≡◌, ◌<◌, vec_len, vec_capacity}
use Rattle.std.specs.List.{AllByRecursion}
use Rattle.std.specs.Vec.Iter.{into_iter_items}
use Rattle.wm_changes.specs.StepChanges.{with_replaced}
use Rattle.wm_changes.proofs.lists.replace_works.Given as goal

-- what is left makes of the works so far what all makes of the works
abbrev pub invariant-loop-replacement : goal.invariant-loop-replacement
invariant-loop-replacement l = record {
  left : with_replaced (into_iter_items l.replacement-iterator) l.works.items ≡ with_replaced l.fn.replaced.items l.fn.works.items;
  within : AllByRecursion (λ replaced. replaced.index < vec_len l.works) (into_iter_items l.replacement-iterator);
  len : vec_len l.works ≡ vec_len l.fn.works;
  capacity : vec_capacity l.works ≡ vec_capacity l.fn.works;
}
