-- Entries that are put in or left by tests, one after another.
use Rattle.std.proofs.Common.{◌≡◌, ℕ, zero, suc, ◌+◌, ◌<◌, ◌&&◌, ◌||◌, Bool, true, false, List, [], ◌∷◌, ◌++◌, get_or, length, take, refl, sym, ◌∙◌, ap, subst, arith, inl, inr}
use Rattle.std.specs.List.{list_all, list_any}
use Rattle.std.proofs.Math.Bool.{or-false}
use Rattle.std.proofs.lemmas.Bool.{or_parts}
use Rattle.std.proofs.lemmas.List.{take_more}
use Rattle.std.proofs.lemmas.List.Folds.{list_all-append, list_any-append}
use Rattle.wm_collections.specs.Lists.{HasOne}
use Rattle.wm_ready.specs.Entries.{has, is_same, Entry}
use Rattle.wm_ready.specs.Puts.{IsPut}
use Rattle.wm_graph.proofs.Tests.{eq-swap}
use Rattle.wm_steps.specs.Readied.{ArePut, AreLeft, IsPutSome}

-- ---- Bools

grouped-or : (a b c : Bool) → ((a || b) || c) ≡ (a || (b || c))
grouped-or true b c = refl
grouped-or false b c = refl

swap-or : (a b : Bool) → (a || b) ≡ (b || a)
swap-or true true = refl
swap-or true false = refl
swap-or false true = refl
swap-or false false = refl

grouped-and : (a b c : Bool) → ((a && b) && c) ≡ (a && (b && c))
grouped-and true b c = refl
grouped-and false b c = refl

and-true : (a : Bool) → (a && true) ≡ a
and-true true = refl
and-true false = refl

or-from : (a b : Bool) → a ≡ true → (a || b) ≡ true
or-from true b e = refl
or-from false b e = absurd cc

pub same-swap : (one other : Entry) → is_same one other ≡ is_same other one
same-swap one other = rw (eq-swap one.due other.due, eq-swap one.seq other.seq, eq-swap one.sig other.sig, eq-swap one.class other.class) refl

-- ---- one by one

module _ {T : Type 0} (test : T → Bool) where
  pub any-more : (xs : List T) (i : ℕ) (x : T) → i < length xs → x ≡ get_or xs i x → list_any test (take (i + 1) xs) ≡ (list_any test (take i xs) || test x)
  any-more xs i x within is =
      ap (list_any test) (take_more xs i x within ∙ ap (λ one. take i xs ++ one ∷ []) (sym is)) ∙ list_any-append test (take i xs) (x ∷ [])
      ∙ ap (λ b. list_any test (take i xs) || b) (or-false (test x))

  pub all-more : (xs : List T) (i : ℕ) (x : T) → i < length xs → x ≡ get_or xs i x → list_all test (take (i + 1) xs) ≡ (list_all test (take i xs) && test x)
  all-more xs i x within is =
      ap (list_all test) (take_more xs i x within ∙ ap (λ one. take i xs ++ one ∷ []) (sym is)) ∙ list_all-append test (take i xs) (x ∷ [])
      ∙ ap (λ b. list_all test (take i xs) && b) (and-true (test x))

  any-some : (i : ℕ) (xs : List T) → list_any test xs ≡ false → list_any test (take i xs) ≡ false
  any-some zero xs none = refl
  any-some (suc i) [] none = refl
  any-some (suc i) (x ∷ xs) none =
      let parts = or_parts (test x) (list_any test xs) none in rw parts.0 (any-some i xs parts.1)

-- the one at a place is one of them
pub stored-item : {T : Type 0} (xs : List T) (i : ℕ) (x : T) → i < length xs → x ≡ get_or xs i x → HasOne (λ y. y ≡ x) xs
stored-item [] i x within is = absurd (omega (arith, within))
stored-item (y ∷ xs) zero x within is = inl (sym is)
stored-item (y ∷ xs) (suc i) x within is = inr (stored-item xs i x (omega (arith, within)) is)

-- ---- puts

put-none : (test : Entry → Bool) (old : List Entry) → ((entry : Entry) → test entry ≡ false) → ArePut test old old
put-none test old none entry = sym (ap (λ b. has old entry || b) (none entry) ∙ or-false (has old entry))

module _ {T : Type 0} (test : Entry → T → Bool) (xs : List T) where
  pub put-start : (old : List Entry) → ArePut (λ entry. list_any (test entry) (take 0 xs)) old old
  put-start old = put-none (λ entry. list_any (test entry) (take 0 xs)) old (λ entry. refl)

  -- one more
  pub put-more : (i : ℕ) (x : T) (old now new : List Entry) → i < length xs → x ≡ get_or xs i x → ArePut (λ entry. list_any (test entry) (take i xs)) old now
      → ArePut (λ entry. test entry x) now new → ArePut (λ entry. list_any (test entry) (take (i + 1) xs)) old new
  put-more i x old now new within is before one entry =
      one entry ∙ ap (λ b. b || test entry x) (before entry) ∙ grouped-or (has old entry) (list_any (test entry) (take i xs)) (test entry x)
      ∙ ap (λ b. has old entry || b) (sym (any-more (test entry) xs i x within is))

  -- those so far are some
  pub put-some : (i : ℕ) (old now : List Entry) → ArePut (λ entry. list_any (test entry) (take i xs)) old now → IsPutSome (λ entry. list_any (test entry) xs) old now
  put-some i old now are = record {
    still = λ entry e. are entry ∙ or-from (has old entry) (list_any (test entry) (take i xs)) e;
    others = λ entry none. are entry ∙ ap (λ b. has old entry || b) (any-some (test entry) i xs none) ∙ or-false (has old entry);
  }

  pub put-all : (i : ℕ) (old now : List Entry) → take i xs ≡ xs → ArePut (λ entry. list_any (test entry) (take i xs)) old now
      → ArePut (λ entry. list_any (test entry) xs) old now
  put-all i old now all are = subst (λ (some : List T). ArePut (λ entry. list_any (test entry) some) old now) all are

  pub left-start : (old : List Entry) → AreLeft (λ entry. list_all (test entry) (take 0 xs)) old old
  left-start old entry = sym (and-true (has old entry))

  pub left-more : (i : ℕ) (x : T) (old now new : List Entry) → i < length xs → x ≡ get_or xs i x → AreLeft (λ entry. list_all (test entry) (take i xs)) old now
      → AreLeft (λ entry. test entry x) now new → AreLeft (λ entry. list_all (test entry) (take (i + 1) xs)) old new
  left-more i x old now new within is before one entry =
      one entry ∙ ap (λ b. b && test entry x) (before entry) ∙ grouped-and (has old entry) (list_all (test entry) (take i xs)) (test entry x)
      ∙ ap (λ b. has old entry && b) (sym (all-more (test entry) xs i x within is))

  pub left-all : (i : ℕ) (old now : List Entry) → take i xs ≡ xs → AreLeft (λ entry. list_all (test entry) (take i xs)) old now
      → AreLeft (λ entry. list_all (test entry) xs) old now
  left-all i old now all are = subst (λ (some : List T). AreLeft (λ entry. list_all (test entry) some) old now) all are

-- ---- one after another

module _ (one other : Entry → Bool) (old now new : List Entry) where
  pub put-then : ArePut one old now → ArePut other now new → ArePut (λ entry. one entry || other entry) old new
  put-then first second entry =
      second entry ∙ ap (λ b. b || other entry) (first entry) ∙ grouped-or (has old entry) (one entry) (other entry)

  pub some-then : IsPutSome one old now → IsPutSome other now new → IsPutSome (λ entry. one entry || other entry) old new
  some-then first second = record {
    still = λ entry e. second.still entry (first.still entry e);
    others = λ entry none. (let parts = or_parts (one entry) (other entry) none in second.others entry parts.1 ∙ first.others entry parts.0);
  }

  pub left-then : AreLeft one old now → AreLeft other now new → AreLeft (λ entry. one entry && other entry) old new
  left-then first second entry =
      second entry ∙ ap (λ b. b && other entry) (first entry) ∙ grouped-and (has old entry) (one entry) (other entry)

pub some-wider : (one other : Entry → Bool) (old new : List Entry) → ((entry : Entry) → other entry ≡ false → one entry ≡ false) → IsPutSome one old new
    → IsPutSome other old new
some-wider one other old new wider some = record { still = some.still; others = λ entry none. some.others entry (wider entry none) }

pub some-same : (test : Entry → Bool) (old new : List Entry) → new ≡ old → IsPutSome test old new
some-same test old new same = record {
  still = λ entry e. ap (λ (entries : List Entry). has entries entry) same ∙ e;
  others = λ entry none. ap (λ (entries : List Entry). has entries entry) same;
}

pub put-are_some : (test : Entry → Bool) (old new : List Entry) → ArePut test old new → IsPutSome test old new
put-are_some test old new are = record {
  still = λ entry e. are entry ∙ or-from (has old entry) (test entry) e;
  others = λ entry none. are entry ∙ ap (λ b. has old entry || b) none ∙ or-false (has old entry);
}

-- one entry that is put in
pub put-one : (put : Entry) (test : Entry → Bool) (old new : List Entry) → ((entry : Entry) → is_same put entry ≡ test entry) → IsPut put old new → ArePut test old new
put-one put test old new same is entry = is entry ∙ ap (λ b. b || has old entry) (same entry) ∙ swap-or (test entry) (has old entry)
