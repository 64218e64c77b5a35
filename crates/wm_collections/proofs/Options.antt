-- What holds of a value where there is one.
use Rattle.std.proofs.Common.{◌≡◌, Bool, true, false, cond, List, [], ◌∷◌, filter_map, find, Option, Some, None, IfSome, option_and_then, option_map, refl}
use Rattle.std.specs.List.{AllByRecursion, cons_option}

pub either : {A : Type 0} (P : A → Type 0) (b : Bool) (o other : Option A) → IfSome o P → IfSome other P → IfSome (cond b o other) P
either P true o other h k = h
either P false o other h k = k

-- where it is there only if a test holds
pub tested : {A : Type 0} (P : A → Type 0) (b : Bool) (x : A) → (b ≡ true → P x) → IfSome (cond b (Some x) None) P
tested P true x h = h refl
tested P false x h = tt

pub then_any : {A B : Type 0} (P : B → Type 0) (f : A → Option B) (o : Option A) → ((x : A) → IfSome (f x) P) → IfSome (option_and_then f o) P
then_any P f None h = tt
then_any P f (Some x) h = h x

pub then_of : {A B : Type 0} (Q : A → Type 0) (P : B → Type 0) (f : A → Option B) (o : Option A) → IfSome o Q → ((x : A) → Q x → IfSome (f x) P)
    → IfSome (option_and_then f o) P
then_of Q P f None q h = tt
then_of Q P f (Some x) q h = h x q

pub map_of : {A B : Type 0} (Q : A → Type 0) (P : B → Type 0) (f : A → B) (o : Option A) → IfSome o Q → ((x : A) → Q x → P (f x)) → IfSome (option_map f o) P
map_of Q P f None q h = tt
map_of Q P f (Some x) q h = h x q

pub map_any : {A B : Type 0} (P : B → Type 0) (f : A → B) (o : Option A) → ((x : A) → P (f x)) → IfSome (option_map f o) P
map_any P f None h = tt
map_any P f (Some x) h = h x

-- ---- lists

-- where there is one, it goes before the others
pub one_more : {A : Type 0} (P : A → Type 0) (o : Option A) (xs : List A) → IfSome o P → AllByRecursion P xs → AllByRecursion P (cons_option o xs)
one_more P None xs h all = all
one_more P (Some x) xs h all = (h, all)

-- what is read of each item, where there is any
pub each_read : {A B : Type 0} (P : B → Type 0) (f : A → Option B) → ((x : A) → IfSome (f x) P) → (xs : List A) → AllByRecursion P (filter_map f xs)
each_read P f h [] = tt
each_read P f h (x ∷ xs) = one_more P (f x) (filter_map f xs) (h x) (each_read P f h xs)

-- what is found of them, where anything is
pub found : {A : Type 0} (P : A → Type 0) (test : A → Bool) (xs : List A) → AllByRecursion P xs → IfSome (find test xs) P
found P test [] all = tt
found P test (x ∷ xs) all = either P (test x) (Some x) (find test xs) all.0 (found P test xs all.1)
