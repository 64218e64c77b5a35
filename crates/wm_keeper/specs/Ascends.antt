-- That rows ascend in one way only, by which a type can keep it as a fact.
use Rattle.std.specs.Prelude.{ℤ, List, [], ◌∷◌, ◌<ℤ◌}
use Rattle.std.specs.List.{AllByRecursion-prop}
use Rattle.std.specs.Coded.{×_prop, Unit-prop}
use Rattle.std.proofs.Common.{ap}
use Rattle.std.proofs.Math.Dec.{T_prop}
use Rattle.wm_keeper.specs.Keeper.{Ascends}
use Rattle.wm_keeper.specs.declared.row.Row.{Row}

-- one number is below another in one way only
<ℤ_prop : (a b : ℤ) → IsProp (a <ℤ b)
<ℤ_prop a b p q = ap (λ t. record { lt = t }) (T_prop _ p.lt q.lt)

-- any two proofs that rows ascend are equal
pub Ascends-prop : (rows : List Row) → IsProp (Ascends rows)
Ascends-prop [] = Unit-prop
Ascends-prop (row ∷ rows) = ×_prop (AllByRecursion-prop _ (λ later. <ℤ_prop _ _) rows) (Ascends-prop rows)
