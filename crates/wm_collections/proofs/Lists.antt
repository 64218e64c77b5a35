-- What holds of each element of a list, of each and each later one, or of one of them, and what a change of the list makes of it. A fact of
-- elements that a call can't tell from its other arguments is written `_` there.
use Rattle.std.proofs.Common.{◌≡◌, ◌⊎◌, ℕ, ◌+◌, ◌<◌, ◌≤◌, cond, Bool, true, false, ◌&&◌, ◌||◌, List, [], ◌∷◌, ◌++◌, map, filter, filter_map, find, take, drop, reverse, length, Option, Some, None, option_map, Contains, refl, sym, ◌∙◌, ap, subst, inl, inr, arith, suc}
use Rattle.std.specs.List.{AllByRecursion, list_all, list_any}
use Rattle.std.specs.Prelude.{count_by}
use Rattle.std.proofs.Math.Bool.{and-false, and-true}
use Rattle.std.proofs.lemmas.Bool.{and_from, and_parts, cond_both, false≢true, or_cases, or_left, or_parts, or_right}
use Rattle.std.proofs.lemmas.List.{append-nil, drop_all, length-map, map-append, reverse-append, take_all}
use Rattle.std.proofs.lemmas.List.Folds.{list_any-append}
use Rattle.std.proofs.lemmas.List.Sums.{count_by-le-length, length-filter, sum_by-append, sum_by-cons}
use Rattle.wm_collections.specs.Lists.{last_of, AllLater, HasOne}

-- ---- each

pub All-any : {T : Type 0} {P : T → Type 0} (xs : List T) → ((x : T) → P x) → AllByRecursion P xs
All-any [] each = tt
All-any (x ∷ xs) each = (each x, All-any xs each)

pub All-weaker : {T : Type 0} {P Q : T → Type 0} (xs : List T) → ((x : T) → P x → Q x) → AllByRecursion P xs → AllByRecursion Q xs
All-weaker [] weaker all = tt
All-weaker (x ∷ xs) weaker all = (weaker x all.0, All-weaker xs weaker all.1)

-- what follows from two facts of each
pub All-with2 : {T : Type 0} {P Q R : T → Type 0} (xs : List T) → ((x : T) → P x → Q x → R x) → AllByRecursion P xs → AllByRecursion Q xs → AllByRecursion R xs
All-with2 [] gives all every = tt
All-with2 (x ∷ xs) gives all every = (gives x all.0 every.0, All-with2 xs gives all.1 every.1)

-- and from three
pub All-with3 : {T : Type 0} {P Q R S : T → Type 0} (xs : List T) → ((x : T) → P x → Q x → R x → S x) → AllByRecursion P xs → AllByRecursion Q xs
    → AllByRecursion R xs → AllByRecursion S xs
All-with3 xs gives all every each = All-with2 xs (λ x f r. f r) (All-with2 xs gives all every) each

pub All-push : {T : Type 0} (P : T → Type 0) (xs : List T) (x : T) → AllByRecursion P xs → P x → AllByRecursion P (xs ++ x ∷ [])
All-push P [] x all p = (p, tt)
All-push P (y ∷ xs) x all p = (all.0, All-push P xs x all.1 p)

pub All-append : {T : Type 0} (P : T → Type 0) (xs ys : List T) → AllByRecursion P xs → AllByRecursion P ys → AllByRecursion P (xs ++ ys)
All-append P [] ys all more = more
All-append P (x ∷ xs) ys all more = (all.0, All-append P xs ys all.1 more)

pub All-front : {T : Type 0} (P : T → Type 0) (xs ys : List T) → AllByRecursion P (xs ++ ys) → AllByRecursion P xs
All-front P [] ys all = tt
All-front P (x ∷ xs) ys all = (all.0, All-front P xs ys all.1)

pub All-back : {T : Type 0} (P : T → Type 0) (xs ys : List T) → AllByRecursion P (xs ++ ys) → AllByRecursion P ys
All-back P [] ys all = all
All-back P (x ∷ xs) ys all = All-back P xs ys all.1

pub All-map : {T U : Type 0} {P : T → Type 0} (Q : U → Type 0) (f : T → U) (xs : List T) → ((x : T) → P x → Q (f x)) → AllByRecursion P xs
    → AllByRecursion Q (map f xs)
All-map Q f [] step all = tt
All-map Q f (x ∷ xs) step all = (step x all.0, All-map Q f xs step all.1)

-- from two facts of each before
pub All-map2 : {T U : Type 0} {P Q : T → Type 0} (R : U → Type 0) (f : T → U) (xs : List T) → ((x : T) → P x → Q x → R (f x)) → AllByRecursion P xs
    → AllByRecursion Q xs → AllByRecursion R (map f xs)
All-map2 R f xs step all every = All-map R f xs (λ x r. r) (All-with2 xs step all every)

pub All-unmap : {T U : Type 0} (P : U → Type 0) (f : T → U) (xs : List T) → AllByRecursion P (map f xs) → AllByRecursion (λ x. P (f x)) xs
All-unmap P f [] all = tt
All-unmap P f (x ∷ xs) all = (all.0, All-unmap P f xs all.1)

-- what passes a test keeps its fact, or gets another one from it
pub All-filter : {T : Type 0} {P Q : T → Type 0} (test : T → Bool) (xs : List T) → ((x : T) → test x ≡ true → P x → Q x) → AllByRecursion P xs
    → AllByRecursion Q (filter test xs)
All-filter test [] step all = tt
All-filter {Q = Q} test (x ∷ xs) step all =
    let rest = All-filter test xs step all.1 in
    cond_both (test x) (x ∷ filter test xs) (filter test xs) (AllByRecursion Q) (λ e. (step x e all.0, rest)) (λ e. rest)

pub All-kept : {T : Type 0} (P : T → Type 0) (test : T → Bool) (xs : List T) → AllByRecursion P xs → AllByRecursion P (filter test xs)
All-kept P test xs all = All-filter test xs (λ x e p. p) all

-- what holds of each that is left by a filter holds of each that passes
pub All-from_filter : {T : Type 0} (P : T → Type 0) (test : T → Bool) (xs : List T) → AllByRecursion P (filter test xs)
    → AllByRecursion (λ x. test x ≡ true → P x) xs
All-from_filter P test [] all = tt
All-from_filter {T} P test (x ∷ xs) all =
    cond_both (test x) (x ∷ filter test xs) (filter test xs) (λ (l : List T). AllByRecursion P l → AllByRecursion (λ x. test x ≡ true → P x) (x ∷ xs))
    (λ e both. (λ passes. both.0, All-from_filter P test xs both.1))
    (λ e rest. (λ passes. absurd (false≢true (sym e ∙ passes)), All-from_filter P test xs rest))
    all

-- what a filter leaves passes
pub All-passing : {T : Type 0} (test : T → Bool) (xs : List T) → AllByRecursion (λ x. test x ≡ true) (filter test xs)
All-passing test xs = All-filter test xs (λ x e u. e) (All-any {P = λ x. Unit {0}} xs (λ x. tt))

pub All-reverse : {T : Type 0} (P : T → Type 0) (xs : List T) → AllByRecursion P xs → AllByRecursion P (reverse xs)
All-reverse P [] all = tt
All-reverse P (x ∷ xs) all = rw (reverse-append (x ∷ []) xs) (All-push P (reverse xs) x (All-reverse P xs all.1) all.0)

-- two functions that agree on each element
pub map-same : {T U : Type 0} (f g : T → U) (xs : List T) → AllByRecursion (λ x. f x ≡ g x) xs → map f xs ≡ map g xs
map-same f g [] same = refl
map-same f g (x ∷ xs) same = rw (same.0, map-same f g xs same.1) refl

-- one change of each element after another
pub map-twice : {T U V : Type 0} (one : T → U) (other : U → V) (xs : List T) → map other (map one xs) ≡ map (λ x. other (one x)) xs
map-twice one other [] = refl
map-twice one other (x ∷ xs) = ap (λ rest. other (one x) ∷ rest) (map-twice one other xs)

pub map-reverse : {T U : Type 0} (f : T → U) (xs : List T) → map f (reverse xs) ≡ reverse (map f xs)
map-reverse f [] = refl
map-reverse f (x ∷ xs) =
    ap (map f) (reverse-append (x ∷ []) xs) ∙ map-append f (reverse xs) (x ∷ []) ∙ ap (λ rest. rest ++ f x ∷ []) (map-reverse f xs)
    ∙ sym (reverse-append (f x ∷ []) (map f xs))

-- each element is one of the list
pub All-stored : {T : Type 0} (xs : List T) → AllByRecursion (λ x. HasOne (λ y. y ≡ x) xs) xs
All-stored [] = tt
All-stored (x ∷ xs) = (inl refl, All-weaker xs (λ z h. inr h) (All-stored xs))

-- what holds of each holds of one of the list
pub All-of_one : {T : Type 0} (P : T → Type 0) (xs : List T) (x : T) → AllByRecursion P xs → HasOne (λ y. y ≡ x) xs → P x
All-of_one P [] x all one = absurd one
All-of_one P (y ∷ xs) x all (inl is) = subst P is all.0
All-of_one P (y ∷ xs) x all (inr one) = All-of_one P xs x all.1 one

-- what is found is one of the list
pub find-stored : {T : Type 0} (test : T → Bool) (xs : List T) (x : T) → find test xs ≡ Some x → HasOne (λ y. y ≡ x) xs
find-stored test [] x found = absurd (cc)
find-stored {T} test (y ∷ xs) x found =
    cond_both (test y) (Some y) (find test xs) (λ (o : Option T). o ≡ Some x → HasOne (λ y. y ≡ x) (y ∷ xs)) (λ e is. let same : y ≡ x = cc in inl same)
    (λ e is. inr (find-stored test xs x is)) found

pub option_map-none : {T U : Type 0} (f : T → U) (found : Option T) → option_map f found ≡ None → found ≡ None
option_map-none f None none = refl
option_map-none f (Some x) none = absurd (cc)

-- what passes isn't among them where nothing is found, and the other way round
pub find-none : {T : Type 0} (test : T → Bool) (xs : List T) → find test xs ≡ None → AllByRecursion (λ x. test x ≡ false) xs
find-none test [] none = tt
find-none {T} test (x ∷ xs) none =
    cond_both (test x) (Some x) (find test xs) (λ (found : Option T). found ≡ None → AllByRecursion (λ y. test y ≡ false) (x ∷ xs)) (λ e is. absurd (cc))
    (λ e is. (e, find-none test xs is)) none

pub find-fails : {T : Type 0} (test : T → Bool) (xs : List T) → AllByRecursion (λ x. test x ≡ false) xs → find test xs ≡ None
find-fails test [] all = refl
find-fails test (x ∷ xs) all = rw (all.0) (find-fails test xs all.1)

-- two tests that agree on each element
pub find-same : {T : Type 0} (one other : T → Bool) (xs : List T) → AllByRecursion (λ x. one x ≡ other x) xs → find one xs ≡ find other xs
find-same one other [] all = refl
find-same one other (x ∷ xs) all = rw (all.0) (ap (cond (other x) (Some x)) (find-same one other xs all.1))

pub All-find : {T : Type 0} (P : T → Type 0) (test : T → Bool) (xs : List T) (x : T) → find test xs ≡ Some x → AllByRecursion P xs → P x
All-find P test xs x found all = All-of_one P xs x all (find-stored test xs x found)

-- what is found passes
pub find-passes : {T : Type 0} (test : T → Bool) (xs : List T) (x : T) → find test xs ≡ Some x → test x ≡ true
find-passes test [] x found = absurd (cc)
find-passes {T} test (y ∷ xs) x found =
    cond_both (test y) (Some y) (find test xs) (λ (o : Option T). o ≡ Some x → test x ≡ true)
    (λ e is. let same : y ≡ x = cc in subst (λ z. test z ≡ true) same e) (λ e is. find-passes test xs x is) found

-- ---- each and each later one

-- what holds of any two by what each of them has
pub AllLater-each : {T : Type 0} {P : T → Type 0} {R : T → T → Type 0} (xs : List T) → ((x y : T) → P x → P y → R x y) → AllByRecursion P xs → AllLater R xs
AllLater-each [] both all = tt
AllLater-each (x ∷ xs) both all = (All-weaker xs (λ y p. both x y all.0 p) all.1, AllLater-each xs both all.1)

pub AllLater-any : {T : Type 0} {R : T → T → Type 0} (xs : List T) → ((x y : T) → R x y) → AllLater R xs
AllLater-any [] each = tt
AllLater-any (x ∷ xs) each = (All-any xs (each x), AllLater-any xs each)

pub AllLater-weaker : {T : Type 0} {R Q : T → T → Type 0} (xs : List T) → ((x y : T) → R x y → Q x y) → AllLater R xs → AllLater Q xs
AllLater-weaker [] weaker later = tt
AllLater-weaker (x ∷ xs) weaker later = (All-weaker xs (weaker x) later.0, AllLater-weaker xs weaker later.1)

pub AllLater-push : {T : Type 0} (R : T → T → Type 0) (xs : List T) (x : T) → AllLater R xs → AllByRecursion (λ y. R y x) xs → AllLater R (xs ++ x ∷ [])
AllLater-push R [] x later new = (tt, tt)
AllLater-push R (y ∷ xs) x later new = (All-push (R y) xs x later.0 new.0, AllLater-push R xs x later.1 new.1)

pub AllLater-append : {T : Type 0} (R : T → T → Type 0) (xs ys : List T) → AllLater R xs → AllLater R ys → AllByRecursion (λ x. AllByRecursion (R x) ys) xs
    → AllLater R (xs ++ ys)
AllLater-append R [] ys later more between = more
AllLater-append R (x ∷ xs) ys later more between = (All-append (R x) xs ys later.0 between.0, AllLater-append R xs ys later.1 more between.1)

-- one element, or none, stands before no other
pub AllLater-few : {T : Type 0} (R : T → T → Type 0) (xs : List T) → length xs ≤ 1 → AllLater R xs
AllLater-few R [] few = tt
AllLater-few R (x ∷ []) few = (tt, tt)
AllLater-few R (x ∷ y ∷ xs) few = absurd (omega (arith, few))

pub AllLater-front : {T : Type 0} (R : T → T → Type 0) (xs ys : List T) → AllLater R (xs ++ ys) → AllLater R xs
AllLater-front R [] ys later = tt
AllLater-front R (x ∷ xs) ys later = (All-front (R x) xs ys later.0, AllLater-front R xs ys later.1)

pub AllLater-back : {T : Type 0} (R : T → T → Type 0) (xs ys : List T) → AllLater R (xs ++ ys) → AllLater R ys
AllLater-back R [] ys later = later
AllLater-back R (x ∷ xs) ys later = AllLater-back R xs ys later.1

pub AllLater-map : {T U : Type 0} {R : T → T → Type 0} (Q : U → U → Type 0) (f : T → U) (xs : List T) → ((x y : T) → R x y → Q (f x) (f y)) → AllLater R xs
    → AllLater Q (map f xs)
AllLater-map Q f [] step later = tt
AllLater-map Q f (x ∷ xs) step later = (All-map (Q (f x)) f xs (step x) later.0, AllLater-map Q f xs step later.1)

pub AllLater-filter : {T : Type 0} (R : T → T → Type 0) (keep : T → Bool) (xs : List T) → AllLater R xs → AllLater R (filter keep xs)
AllLater-filter R keep [] later = tt
AllLater-filter R keep (x ∷ xs) later =
    let rest = AllLater-filter R keep xs later.1 in
    cond_both (keep x) (x ∷ filter keep xs) (filter keep xs) (AllLater R) (λ e. (All-filter keep xs (λ y k r. r) later.0, rest)) (λ e. rest)

pub AllLater-reverse : {T : Type 0} (R : T → T → Type 0) (xs : List T) → AllLater R xs → AllLater (λ x y. R y x) (reverse xs)
AllLater-reverse R [] later = tt
AllLater-reverse R (x ∷ xs) later =
    rw (reverse-append (x ∷ []) xs) (AllLater-push (λ x y. R y x) (reverse xs) x (AllLater-reverse R xs later.1) (All-reverse (R x) xs later.0))

-- ---- one

-- what follows from one element that has a fact
pub one_gives : {T : Type 0} {A P : T → Type 0} {C : Type 0} (xs : List T) → ((x : T) → A x → P x → C) → AllByRecursion A xs → HasOne P xs → C
one_gives [] gives all one = absurd one
one_gives (x ∷ xs) gives all (inl p) = gives x all.0 p
one_gives (x ∷ xs) gives all (inr one) = one_gives xs gives all.1 one

pub HasOne-with : {T : Type 0} {A P Q : T → Type 0} (xs : List T) → ((x : T) → A x → P x → Q x) → AllByRecursion A xs → HasOne P xs → HasOne Q xs
HasOne-with [] step all one = one
HasOne-with (x ∷ xs) step all (inl p) = inl (step x all.0 p)
HasOne-with (x ∷ xs) step all (inr one) = inr (HasOne-with xs step all.1 one)

pub HasOne-weaker : {T : Type 0} {P Q : T → Type 0} (xs : List T) → ((x : T) → P x → Q x) → HasOne P xs → HasOne Q xs
HasOne-weaker [] step one = one
HasOne-weaker (x ∷ xs) step (inl p) = inl (step x p)
HasOne-weaker (x ∷ xs) step (inr one) = inr (HasOne-weaker xs step one)

pub HasOne-map : {T U : Type 0} {P : T → Type 0} (Q : U → Type 0) (f : T → U) (xs : List T) → ((x : T) → P x → Q (f x)) → HasOne P xs → HasOne Q (map f xs)
HasOne-map Q f [] step one = one
HasOne-map Q f (x ∷ xs) step (inl p) = inl (step x p)
HasOne-map Q f (x ∷ xs) step (inr one) = inr (HasOne-map Q f xs step one)

pub HasOne-map_with : {T U : Type 0} {A P : T → Type 0} (Q : U → Type 0) (f : T → U) (xs : List T) → ((x : T) → A x → P x → Q (f x)) → AllByRecursion A xs
    → HasOne P xs → HasOne Q (map f xs)
HasOne-map_with Q f xs step all one = HasOne-map Q f xs (λ x q. q) (HasOne-with xs step all one)

-- one of the front is one of the whole
pub HasOne-front : {T : Type 0} (P : T → Type 0) (xs ys : List T) → HasOne P xs → HasOne P (xs ++ ys)
HasOne-front P [] ys one = absurd one
HasOne-front P (x ∷ xs) ys (inl p) = inl p
HasOne-front P (x ∷ xs) ys (inr one) = inr (HasOne-front P xs ys one)

-- the last element is one of the whole
pub HasOne-last : {T : Type 0} (P : T → Type 0) (xs : List T) (x : T) → P x → HasOne P (xs ++ x ∷ [])
HasOne-last P [] x p = inl p
HasOne-last P (y ∷ xs) x p = inr (HasOne-last P xs x p)

pub HasOne-reverse : {T : Type 0} (P : T → Type 0) (xs : List T) → HasOne P xs → HasOne P (reverse xs)
HasOne-reverse P [] one = one
HasOne-reverse P (x ∷ xs) (inl p) = rw (reverse-append (x ∷ []) xs) (HasOne-last P (reverse xs) x p)
HasOne-reverse P (x ∷ xs) (inr one) = rw (reverse-append (x ∷ []) xs) (HasOne-front P (reverse xs) (x ∷ []) (HasOne-reverse P xs one))

pub HasOne-filter : {T : Type 0} {A P : T → Type 0} (test : T → Bool) (xs : List T) → ((x : T) → A x → P x → test x ≡ true) → AllByRecursion A xs → HasOne P xs
    → HasOne P (filter test xs)
HasOne-filter test [] passes all one = one
HasOne-filter {P = P} test (x ∷ xs) passes all (inl p) = rw (passes x all.0 p) (inl p)
HasOne-filter {P = P} test (x ∷ xs) passes all (inr one) =
    let rest = HasOne-filter test xs passes all.1 one in
    cond_both (test x) (x ∷ filter test xs) (filter test xs) (HasOne P) (λ e. inr rest) (λ e. rest)

-- ---- the last

-- an element that was put behind the others
pub last_of-push : {T : Type 0} (xs : List T) (x : T) → last_of (xs ++ x ∷ []) ≡ Some x
last_of-push [] x = refl
last_of-push (y ∷ []) x = refl
last_of-push (y ∷ z ∷ xs) x = last_of-push (z ∷ xs) x

-- ---- whether any passes

pub list_any-false : {T : Type 0} (test : T → Bool) (xs : List T) → AllByRecursion (λ x. test x ≡ false) xs → list_any test xs ≡ false
list_any-false test [] all = refl
list_any-false test (x ∷ xs) all = rw (all.0) (list_any-false test xs all.1)

pub none_pass : {T : Type 0} (test : T → Bool) (xs : List T) → list_any test xs ≡ false → AllByRecursion (λ x. test x ≡ false) xs
none_pass test [] none = tt
none_pass test (x ∷ xs) none = let parts = or_parts (test x) (list_any test xs) none in (parts.0, none_pass test xs parts.1)

-- where any passes, one does, and the other way round
pub any_passes : {T : Type 0} (test : T → Bool) (xs : List T) → list_any test xs ≡ true → HasOne (λ x. test x ≡ true) xs
any_passes test [] any = absurd (false≢true any)
any_passes test (x ∷ xs) any = elim (or_cases (test x) (list_any test xs) any) [ inl here ↦ inl here | inr there ↦ inr (any_passes test xs there) ]

pub list_any-one : {T : Type 0} (test : T → Bool) (xs : List T) → HasOne (λ x. test x ≡ true) xs → list_any test xs ≡ true
list_any-one test [] one = absurd one
list_any-one test (x ∷ xs) (inl here) = or_left _ _ here
list_any-one test (x ∷ xs) (inr one) = or_right _ _ (list_any-one test xs one)

-- one that passes
pub list_any-stored : {T : Type 0} (test : T → Bool) (xs : List T) (x : T) → HasOne (λ y. y ≡ x) xs → test x ≡ true → list_any test xs ≡ true
list_any-stored test xs x one passes = list_any-one test xs (HasOne-weaker xs (λ y is. ap test is ∙ passes) one)

-- a test of the elements after a change is a test of those before
pub list_any_after : {T U : Type 0} (test : U → Bool) (f : T → U) (xs : List T) → list_any test (map f xs) ≡ list_any (λ x. test (f x)) xs
list_any_after test f [] = refl
list_any_after test f (x ∷ xs) = ap (λ b. test (f x) || b) (list_any_after test f xs)

-- what passes still passes where each element that passes does after a change
pub list_any-map : {T U : Type 0} (test : T → Bool) (then : U → Bool) (f : T → U) (xs : List T) → AllByRecursion (λ x. test x ≡ true → then (f x) ≡ true) xs
    → list_any test xs ≡ true → list_any then (map f xs) ≡ true
list_any-map test then f xs keeps any = list_any-one then (map f xs) (HasOne-map_with _ f xs (λ x keep is. keep is) keeps (any_passes test xs any))

-- and passed before, where each element that passes after the change did
pub list_any-before : {T U : Type 0} (test : T → Bool) (then : U → Bool) (f : T → U) (xs : List T) → AllByRecursion (λ x. then (f x) ≡ true → test x ≡ true) xs
    → list_any then (map f xs) ≡ true → list_any test xs ≡ true
list_any-before test then f xs came any =
    list_any-one test xs (HasOne-with xs (λ x come is. come is) came (any_passes (λ x. then (f x)) xs (sym (list_any_after then f xs) ∙ any)))

-- two tests that agree on each element
pub list_any-agree : {T : Type 0} (test other : T → Bool) (xs : List T) → AllByRecursion (λ x. test x ≡ other x) xs → list_any test xs ≡ list_any other xs
list_any-agree test other [] same = refl
list_any-agree test other (x ∷ xs) same = rw (same.0, list_any-agree test other xs same.1) refl

-- a test that is the same of each element after a change
pub list_any-same : {T : Type 0} (test : T → Bool) (f : T → T) (xs : List T) → ((x : T) → test (f x) ≡ test x) → list_any test (map f xs) ≡ list_any test xs
list_any-same test f xs same = list_any_after test f xs ∙ list_any-agree (λ x. test (f x)) test xs (All-any xs same)

-- a filter that drops none that pass
pub list_any-filter : {T : Type 0} (test keep : T → Bool) (xs : List T) → AllByRecursion (λ x. keep x ≡ false → test x ≡ false) xs
    → list_any test (filter keep xs) ≡ list_any test xs
list_any-filter test keep [] all = refl
list_any-filter {T} test keep (x ∷ xs) all =
    let rest = list_any-filter test keep xs all.1 in
    cond_both (keep x) (x ∷ filter keep xs) (filter keep xs) (λ (l : List T). list_any test l ≡ (test x || list_any test xs)) (λ e. ap (λ b. test x || b) rest)
    (λ e. rw (all.0 e) rest)

-- one passes among those that are kept
pub list_any-kept : {T : Type 0} (test keep : T → Bool) (xs : List T) → list_any test (filter keep xs) ≡ list_any (λ x. test x && keep x) xs
list_any-kept test keep [] = refl
list_any-kept {T} test keep (x ∷ xs) =
    let rest = list_any-kept test keep xs in
    let here : Bool → Bool = λ b. b || list_any (λ y. test y && keep y) xs in
    cond_both (keep x) (x ∷ filter keep xs) (filter keep xs) (λ (l : List T). list_any test l ≡ here (test x && keep x))
    (λ e. ap (λ b. test x || b) rest ∙ sym (ap here (ap (λ b. test x && b) e ∙ and-true (test x))))
    (λ e. rest ∙ sym (ap here (ap (λ b. test x && b) e ∙ and-false (test x))))

pub or_swap : (a b : Bool) → (a || (b || false)) ≡ (b || a)
or_swap true true = refl
or_swap true false = refl
or_swap false true = refl
or_swap false false = refl

-- a list has the same elements in the other order
pub list_any-reverse : {T : Type 0} (test : T → Bool) (xs : List T) → list_any test (reverse xs) ≡ list_any test xs
list_any-reverse test [] = refl
list_any-reverse test (x ∷ xs) =
    ap (list_any test) (reverse-append (x ∷ []) xs) ∙ list_any-append test (reverse xs) (x ∷ []) ∙ ap (λ b. b || (test x || false)) (list_any-reverse test xs)
    ∙ or_swap (list_any test xs) (test x)

-- where all pass, each does, and the other way round
pub all_pass : {T : Type 0} (test : T → Bool) (xs : List T) → list_all test xs ≡ true → AllByRecursion (λ x. test x ≡ true) xs
all_pass test [] all = tt
all_pass test (x ∷ xs) all = let parts = and_parts (test x) (list_all test xs) all in (parts.0, all_pass test xs parts.1)

pub list_all-each : {T : Type 0} (test : T → Bool) (xs : List T) → AllByRecursion (λ x. test x ≡ true) xs → list_all test xs ≡ true
list_all-each test [] all = refl
list_all-each test (x ∷ xs) all = and_from _ _ all.0 (list_all-each test xs all.1)

-- two tests that agree on each element
pub list_all-agree : {T : Type 0} (test other : T → Bool) (xs : List T) → AllByRecursion (λ x. test x ≡ other x) xs → list_all test xs ≡ list_all other xs
list_all-agree test other [] same = refl
list_all-agree test other (x ∷ xs) same = rw (same.0, list_all-agree test other xs same.1) refl

-- what all pass they still pass
pub list_all-weaker : {T : Type 0} (test then : T → Bool) (xs : List T) → ((x : T) → test x ≡ true → then x ≡ true) → list_all test xs ≡ true
    → list_all then xs ≡ true
list_all-weaker test then xs weaker all = list_all-each then xs (All-weaker xs weaker (all_pass test xs all))

-- ---- filters and lengths

-- a filter that each passes drops none
pub filter-each : {T : Type 0} (keep : T → Bool) (xs : List T) → AllByRecursion (λ x. keep x ≡ true) xs → filter keep xs ≡ xs
filter-each keep [] all = refl
filter-each keep (x ∷ xs) all = rw (all.0) (ap (λ rest. x ∷ rest) (filter-each keep xs all.1))

pub filter-all : {T : Type 0} (keep : T → Bool) (xs : List T) → ((x : T) → keep x ≡ true) → filter keep xs ≡ xs
filter-all keep xs all = filter-each keep xs (All-any xs all)

-- one that each fails leaves none
pub filter-none : {T : Type 0} (keep : T → Bool) (xs : List T) → AllByRecursion (λ x. keep x ≡ false) xs → filter keep xs ≡ []
filter-none keep [] all = refl
filter-none keep (x ∷ xs) all = rw (all.0) (filter-none keep xs all.1)

-- two tests that agree on each element
pub filter-same : {T : Type 0} (one other : T → Bool) (xs : List T) → AllByRecursion (λ x. one x ≡ other x) xs → filter one xs ≡ filter other xs
filter-same one other [] all = refl
filter-same one other (x ∷ xs) all = rw (all.0, filter-same one other xs all.1) refl

pub filter_map-same : {T U : Type 0} (f g : T → Option U) (xs : List T) → AllByRecursion (λ x. f x ≡ g x) xs → filter_map f xs ≡ filter_map g xs
filter_map-same f g [] all = refl
filter_map-same f g (x ∷ xs) all = rw (all.0, filter_map-same f g xs all.1) refl

-- a filter after a change is one before it
pub map-filter : {T U : Type 0} (f : T → U) (test : U → Bool) (xs : List T) → map f (filter (λ x. test (f x)) xs) ≡ filter test (map f xs)
map-filter f test [] = refl
map-filter {T} {U} f test (x ∷ xs) =
    let rest = map-filter f test xs in
    cond_both (test (f x)) (x ∷ filter (λ x. test (f x)) xs) (filter (λ x. test (f x)) xs)
    (λ (l : List T). map f l ≡ cond (test (f x)) (f x ∷ filter test (map f xs)) (filter test (map f xs))) (λ e. rw e (ap (λ l. f x ∷ l) rest)) (λ e. rw e rest)

-- a filter leaves no more
pub filter-few : {T : Type 0} (keep : T → Bool) (xs : List T) → length (filter keep xs) ≤ length xs
filter-few keep xs = omega (arith, length-filter keep xs, count_by-le-length keep xs)

-- what a loop that changes each element of a `Vec` in place leaves in it
pub changed-whole : {T : Type 0} (change : T → T) (xs seen new : List T) (len : ℕ) → seen ≡ xs → length seen ≡ len → new ≡ map change seen
    → take len (new ++ drop (length new) xs) ≡ map change xs
changed-whole change xs seen new len same long changed =
    let count : length new ≡ len = ap length changed ∙ length-map seen change ∙ long in
    let none : drop (length new) xs ≡ [] = drop_all (length new) xs (let size = ap length same in omega arith) in
    rw (none, append-nil) (take_all len new (omega arith) ∙ changed ∙ ap (map change) same)

-- ---- how many pass

-- one where a test passes
abbrev pub weight : Bool → ℕ
weight passes = cond passes 1 0

pub count-cons : {T : Type 0} (test : T → Bool) (x : T) (xs : List T) → count_by test (x ∷ xs) ≡ weight (test x) + count_by test xs
count-cons {T} test x xs = sum_by-cons (λ (y : T). cond (test y) 1 0) x xs

-- one more that fails
pub count-failing : {T : Type 0} (test : T → Bool) (x : T) (xs : List T) → test x ≡ false → count_by test (x ∷ xs) ≡ count_by test xs
count-failing test x xs fails = let here : weight (test x) ≡ 0 = ap weight fails in omega (arith, count-cons test x xs, here)

weight-less : (before now : Bool) → (now ≡ true → before ≡ true) → weight now ≤ weight before
weight-less true now implied = cond_both now 1 0 (λ (n : ℕ). n ≤ 1) (λ e. omega arith) (λ e. omega arith)
weight-less false true implied = absurd (false≢true (implied refl))
weight-less false false implied = omega arith

-- as many pass at most, where each that passes after a change did before
pub count-map : {T : Type 0} (before now : T → Bool) (change : T → T) (xs : List T) → AllByRecursion (λ x. now (change x) ≡ true → before x ≡ true) xs
    → count_by now (map change xs) ≤ count_by before xs
count-map before now change [] implied = omega arith
count-map before now change (x ∷ xs) implied =
    let one = weight-less (before x) (now (change x)) implied.0 in
    omega (arith, count-cons before x xs, count-cons now (change x) (map change xs), one, count-map before now change xs implied.1)

-- and fewer, where one did that doesn't now
pub count-fewer : {T : Type 0} (before now : T → Bool) (change : T → T) (xs : List T) → AllByRecursion (λ x. now (change x) ≡ true → before x ≡ true) xs
    → HasOne (λ x. (before x ≡ true) × (now (change x) ≡ false)) xs → count_by now (map change xs) < count_by before xs
count-fewer before now change [] implied one = absurd one
count-fewer before now change (x ∷ xs) implied (inl is) =
    let more : weight (before x) ≡ 1 = ap weight is.0 in
    let less : weight (now (change x)) ≡ 0 = ap weight is.1 in
    omega (arith, count-cons before x xs, count-cons now (change x) (map change xs), more, less, count-map before now change xs implied.1)
count-fewer before now change (x ∷ xs) implied (inr one) =
    let less = weight-less (before x) (now (change x)) implied.0 in
    omega (arith, count-cons before x xs, count-cons now (change x) (map change xs), less, count-fewer before now change xs implied.1 one)

-- as many pass, where a change makes no difference to the test
pub count-same : {T : Type 0} (test : T → Bool) (change : T → T) (xs : List T) → ((x : T) → test (change x) ≡ test x)
    → count_by test (map change xs) ≡ count_by test xs
count-same test change [] same = refl
count-same test change (x ∷ xs) same = count-cons test (change x) (map change xs) ∙ rw (same x, count-same test change xs same) (sym (count-cons test x xs))

pub count-push : {T : Type 0} (test : T → Bool) (xs : List T) (x : T) → count_by test (xs ++ x ∷ []) ≡ count_by test xs + weight (test x)
count-push {T} test xs x = omega (arith, sum_by-append (λ (y : T). cond (test y) 1 0) xs (x ∷ []), count-cons test x [])

-- none passes, where each fails
pub count-none : {T : Type 0} (test : T → Bool) (xs : List T) → AllByRecursion (λ x. test x ≡ false) xs → count_by test xs ≡ 0
count-none test [] fails = refl
count-none test (x ∷ xs) fails = count-failing test x xs fails.0 ∙ count-none test xs fails.1

-- a filter that keeps all that pass
pub count-filter : {T : Type 0} (test keep : T → Bool) (xs : List T) → AllByRecursion (λ x. keep x ≡ false → test x ≡ false) xs
    → count_by test (filter keep xs) ≡ count_by test xs
count-filter test keep [] drops = refl
count-filter {T} test keep (x ∷ xs) drops =
    let rest = count-filter test keep xs drops.1 in
    cond_both (keep x) (x ∷ filter keep xs) (filter keep xs) (λ (l : List T). count_by test l ≡ count_by test (x ∷ xs))
    (λ e. count-cons test x (filter keep xs) ∙ rw rest (sym (count-cons test x xs))) (λ e. rest ∙ sym (count-failing test x xs (drops.0 e)))
