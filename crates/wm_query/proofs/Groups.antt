-- The groups that a query names.
use Rattle.std.proofs.Common.{◌≡◌, ◌==◌, ◌||◌, Bool, false, List, [], ◌∷◌, length, refl, ap, arith}
use Rattle.std.specs.List.{list_any}
use Rattle.std.proofs.lemmas.Bool.{ne_eqb}
use Rattle.wm_machine.specs.Queried.{any_or_empty}

-- a group is empty, or one of it passes
pub any_or_empty_is : {T : Type 0} (test : T → Bool) (group : List T) → (length group == 0 || list_any test group) ≡ any_or_empty test group
any_or_empty_is test [] = refl
any_or_empty_is test (x ∷ xs) = ap (λ b. b || list_any test (x ∷ xs)) (ne_eqb (length (x ∷ xs)) 0 (λ e. absurd (omega arith)))

-- where it isn't empty, one of it passes
pub any_of_group : {T : Type 0} (test : T → Bool) (group : List T) → (length group == 0) ≡ false → list_any test group ≡ any_or_empty test group
any_of_group test [] none = absurd (cc)
any_of_group test (x ∷ xs) none = refl
