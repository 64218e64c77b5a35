-- What holds of each element of a list and of those after it, or of one of them, and which is the last.
use Rattle.std.specs.Prelude.{◌≡◌, ◌⊎◌, ℕ, ◌<◌, ◌==◌, Bool, List, [], ◌∷◌, Option, Some, None}
use Rattle.std.specs.Cmp.Lexicographic.{slice_cmp}
use Rattle.std.specs.List.{AllByRecursion, list_any}
use Rattle.std.specs.Ordering.{nat_cmp}
use Rattle.std.specs.declared.cmp.Ordering.TheVariants.{Less}

-- it holds of each element and each later one
abbrev pub AllLater : {T : Type 0} → (T → T → Type 0) → List T → Type 0
AllLater R [] = Unit {0}
AllLater R (x ∷ xs) = AllByRecursion (R x) xs × AllLater R xs

-- one of these has this fact
abbrev pub HasOne : {T : Type 0} → (T → Type 0) → List T → Type 0
HasOne P [] = ⊥
HasOne P (x ∷ xs) = P x ⊎ HasOne P xs

-- the last element, where there is one
abbrev pub last_of : {T : Type 0} → List T → Option T
last_of [] = None
last_of (x ∷ []) = Some x
last_of (x ∷ y ∷ xs) = last_of (y ∷ xs)

-- whether a number is one of these
abbrev pub is_among : List ℕ → ℕ → Bool
is_among numbers number = list_any (λ one. one == number) numbers

-- numbers in strictly ascending order
abbrev pub NumbersAscend : List ℕ → Type 0
NumbersAscend numbers = AllLater (λ number later. number < later) numbers

-- texts in strictly ascending order of their bytes
abbrev pub AscendByBytes : List (List ℕ) → Type 0
AscendByBytes texts = AllLater (λ text later. slice_cmp nat_cmp text later ≡ Less) texts
