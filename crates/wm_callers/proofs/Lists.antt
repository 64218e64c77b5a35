-- Beginnings of lists, places of a caller, and parts of lists of places.
use Rattle.std.proofs.Common.{◌≡◌, ℕ, suc, ◌+◌, ◌≤◌, ◌==◌, cond, Bool, true, false, List, [], ◌∷◌, ◌++◌, length, refl, sym, ap, subst, ◌∙◌, inl, inr, arith, append_assoc, length-append, eq-eqb}
use Rattle.std.proofs.lemmas.List.{append-nil}
use mathlib.Core.List.{IsPrefix}
use Rattle.wm_callers.specs.Places.{places_from, places_of, longer, last_place, ArePart}
use Rattle.wm_callers.specs.declared.entry.Signed.{Signed}

-- ---- beginnings

pub prefix_self : {A : Type 0} (xs : List A) → IsPrefix xs xs
prefix_self xs = ([], append-nil xs)

pub prefix_trans : {A : Type 0} (xs ys zs : List A) → IsPrefix xs ys → IsPrefix ys zs → IsPrefix xs zs
prefix_trans xs ys zs p q = (p.0 ++ q.0, sym (append_assoc xs p.0 q.0) ∙ (ap (λ w. w ++ q.0) p.1 ∙ q.1))

-- of two beginnings of one list the shorter begins the longer
pub prefix_shorter : {A : Type 0} (xs ys zs : List A) → IsPrefix xs zs → IsPrefix ys zs → length xs ≤ length ys → IsPrefix xs ys
prefix_shorter [] ys zs p q le = (ys, refl)
prefix_shorter (x ∷ xs) [] zs p q le = absurd (omega arith)
prefix_shorter (x ∷ xs) (y ∷ ys) [] p q le = absurd (cc (p.1))
prefix_shorter (x ∷ xs) (y ∷ ys) (z ∷ zs) p q le =
    let heads : x ≡ y = cc (p.1, q.1) in
    let rest = prefix_shorter xs ys zs (p.0, cc (p.1)) (q.0, cc (q.1)) (omega arith) in
    (rest.0, λ i. heads i ∷ rest.1 i)

-- ---- the longer of two

pub longer-first : (xs ys : List Signed) → IsPrefix xs (longer xs ys)
longer-first [] ys = (ys, refl)
longer-first (x ∷ xs) [] = prefix_self (x ∷ xs)
longer-first (x ∷ xs) (y ∷ ys) = let rest = longer-first xs ys in (rest.0, ap (λ l. x ∷ l) rest.1)

pub longer-length : (xs ys : List Signed) → length ys ≤ length (longer xs ys)
longer-length [] ys = omega arith
longer-length (x ∷ xs) [] = omega arith
longer-length (x ∷ xs) (y ∷ ys) = omega (arith, longer-length xs ys)

-- it begins what both begin
pub longer-begins : (xs ys all : List Signed) → IsPrefix xs all → IsPrefix ys all → IsPrefix (longer xs ys) all
longer-begins [] ys all p q = q
longer-begins (x ∷ xs) [] all p q = p
longer-begins (x ∷ xs) (y ∷ ys) [] p q = absurd (cc (p.1))
longer-begins (x ∷ xs) (y ∷ ys) (z ∷ zs) p q =
    let head : x ≡ z = cc (p.1) in
    let rest = longer-begins xs ys zs (p.0, cc (p.1)) (q.0, cc (q.1)) in
    (rest.0, λ i. head i ∷ rest.1 i)

-- it is the second where the first begins that
pub longer-second : (xs ys : List Signed) → IsPrefix xs ys → longer xs ys ≡ ys
longer-second [] ys p = refl
longer-second (x ∷ xs) [] p = absurd (cc (p.1))
longer-second (x ∷ xs) (y ∷ ys) p =
    let head : x ≡ y = cc (p.1) in
    let rest = longer-second xs ys (p.0, cc (p.1)) in
    λ i. head i ∷ rest i

-- ---- places

pub places-append : (number place : ℕ) (xs ys : List Signed)
    → places_from number place (xs ++ ys) ≡ places_from number place xs ++ places_from number (place + length xs) ys
places-append number place [] ys = ap (λ p. places_from number p ys) (omega arith)
places-append number place (x ∷ xs) ys =
    let same : suc place + length xs ≡ place + length (x ∷ xs) = omega arith in
    by_test (places-append number (suc place) xs ys ∙ ap (λ p. places_from number (suc place) xs ++ places_from number p ys) same) (x.caller == number)
  where
    by_test : places_from number (suc place) (xs ++ ys) ≡ places_from number (suc place) xs ++ places_from number (place + length (x ∷ xs)) ys
        → (test : Bool)
        → cond test (place ∷ places_from number (suc place) (xs ++ ys)) (places_from number (suc place) (xs ++ ys))
        ≡ cond test (place ∷ places_from number (suc place) xs) (places_from number (suc place) xs) ++ places_from number (place + length (x ∷ xs)) ys
    by_test rest true = ap (λ l. place ∷ l) rest
    by_test rest false = rest

-- those of a beginning begin those of the whole
pub places-begin : (number : ℕ) (xs ys : List Signed) → IsPrefix xs ys → IsPrefix (places_of number xs) (places_of number ys)
places-begin number xs ys p = (places_from number (0 + length xs) p.0, sym (places-append number 0 xs p.0) ∙ ap (places_of number) p.1)

-- an entry of the caller has the last place
pub places-push : (number : ℕ) (xs : List Signed) (x : Signed) → x.caller ≡ number
    → places_of number (xs ++ x ∷ []) ≡ places_of number xs ++ (length xs ∷ [])
places-push number xs x own =
    let test : (x.caller == number) ≡ true = eq-eqb x.caller number own in
    let place : 0 + length xs ≡ length xs = omega arith in
    places-append number 0 xs (x ∷ [])
    ∙ ap (λ t. places_of number xs ++ cond t ((0 + length xs) ∷ []) []) test
    ∙ ap (λ p. places_of number xs ++ (p ∷ [])) place

pub last_place-push : (xs : List Signed) (x : Signed) → last_place (xs ++ x ∷ []) ≡ length xs
last_place-push xs x = omega (arith, length-append xs (x ∷ []))

-- ---- parts

pub part-more : (xs ys zs : List ℕ) → ArePart xs ys → ArePart xs (ys ++ zs)
part-more [] ys zs part = tt
part-more (x ∷ xs) [] zs part = absurd part
part-more (x ∷ xs) (y ∷ ys) zs (inl both) = inl (both.0, part-more xs ys zs both.1)
part-more (x ∷ xs) (y ∷ ys) zs (inr part) = inr (part-more (x ∷ xs) ys zs part)

pub part-begins : (xs ys zs : List ℕ) → ArePart xs ys → IsPrefix ys zs → ArePart xs zs
part-begins xs ys zs part p = subst (ArePart xs) p.1 (part-more xs ys p.0 part)

pub part-push : (xs ys : List ℕ) (x : ℕ) → ArePart xs ys → ArePart (xs ++ x ∷ []) (ys ++ x ∷ [])
part-push [] [] x part = inl (refl, tt)
part-push [] (y ∷ ys) x part = inr (part-push [] ys x tt)
part-push (z ∷ xs) [] x part = absurd part
part-push (z ∷ xs) (y ∷ ys) x (inl both) = inl (both.0, part-push xs ys x both.1)
part-push (z ∷ xs) (y ∷ ys) x (inr part) = inr (part-push (z ∷ xs) ys x part)

pub part-length : (xs ys : List ℕ) → ArePart xs ys → length xs ≤ length ys
part-length [] ys part = omega arith
part-length (x ∷ xs) [] part = absurd part
part-length (x ∷ xs) (y ∷ ys) (inl both) = omega (arith, part-length xs ys both.1)
part-length (x ∷ xs) (y ∷ ys) (inr part) = omega (arith, part-length (x ∷ xs) ys part)

-- a part that is as long as the whole is the whole
pub part-whole : (xs ys : List ℕ) → ArePart xs ys → length ys ≤ length xs → xs ≡ ys
part-whole [] [] part le = refl
part-whole [] (y ∷ ys) part le = absurd (omega (arith, le))
part-whole (x ∷ xs) [] part le = absurd part
part-whole (x ∷ xs) (y ∷ ys) (inl both) le =
    let rest = part-whole xs ys both.1 (omega (arith, le)) in
    λ i. both.0 i ∷ rest i
part-whole (x ∷ xs) (y ∷ ys) (inr part) le = absurd (omega (arith, le, part-length (x ∷ xs) ys part))

-- the caller's places, with the last one
pub part-signed : (number : ℕ) (mine : List ℕ) (seen before_it : List Signed) (entry : Signed) → entry.caller ≡ number → IsPrefix seen before_it
    → ArePart mine (places_of number seen) → ArePart (mine ++ length before_it ∷ []) (places_of number (before_it ++ entry ∷ []))
part-signed number mine seen before_it entry own begins part =
    rw (places-push number before_it entry own)
    (part-push mine (places_of number before_it) (length before_it)
    (part-begins mine (places_of number seen) (places_of number before_it) part (places-begin number seen before_it begins)))

-- in a longer list
pub part-longer : (number : ℕ) (mine : List ℕ) (seen longer_one : List Signed) → IsPrefix seen longer_one → ArePart mine (places_of number seen)
    → ArePart mine (places_of number longer_one)
part-longer number mine seen longer_one begins part =
    part-begins mine (places_of number seen) (places_of number longer_one) part (places-begin number seen longer_one begins)
