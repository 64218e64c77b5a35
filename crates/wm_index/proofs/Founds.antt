-- What the tables find after a change of one work, and of what is kept of it.
use Rattle.std.proofs.Common.{◌≡◌, ℕ, ◌==◌, ◌&&◌, ◌||◌, Bool, true, false, not, cond, List, [], ◌∷◌, filter, refl, sym, ap, subst, ◌∙◌, inl, inr, Option, Some, None, Result, Ok, Err, IsOk, OnErr, OnOk}
use Rattle.std.proofs.Math.Bool.{and-false, and-true, or-false}
use Rattle.std.proofs.lemmas.Bool.{and_parts, cases_Bool, eq-eqb, eqb-true, not-true, or_left, or_right}
use Rattle.std.specs.List.{AllByRecursion}
use Rattle.std.specs.Map.{lookup}
use Rattle.std.specs.Option.{option_map_or}
use Rattle.std.specs.Result.{is_err}
use Rattle.std.specs.Str.{bytes_eq}
use Rattle.wm_collections.proofs.Lists.{All-any, All-weaker, filter-each, filter-none, list_any-agree, list_any-kept}
use Rattle.wm_index.specs.Entries.{has_tag}
use Rattle.wm_index.specs.Groups.{has_id, IsJoined, IsParted, KeepsOthers, Table}
use Rattle.wm_index.specs.Works.{at, AreFound, IsSetAt, Kept}
use Rattle.wm_index.proofs.Tables.{joined-others, parted-others}
use Rattle.wm_index.proofs.Bools.{any-and, at-test, bytes-refl, bytes-same, under}

pub ok_given : {A E : Type 0} (r : Result A E) (P : Type 0) → OnOk r P → is_err r ≡ false → P
ok_given (Ok x) P given not_err = given
ok_given (Err e) P given not_err = absurd cc

pub ok_holds : {A E : Type 0} (r : Result A E) (P : Type 0) → OnOk r P → IsOk r → P
ok_holds (Ok x) P given is_ok = given
ok_holds (Err e) P given is_ok = absurd cc

pub err_given : {A E : Type 0} (r : Result A E) (P : Type 0) → OnErr r P → is_err r ≡ true → P
err_given (Ok x) P given err = absurd cc
err_given (Err e) P given err = given

module _ (test : List ℕ → Kept → Bool) (seq : ℕ) (kept : Option Kept) (old_works new_works : List (ℕ × Kept)) (old new : Table)
    (found : AreFound test old_works old) (set : IsSetAt seq kept old_works new_works) where
  -- a table that has what is set, and of other works what it had
  pub found-set : ((text : List ℕ) → new text seq ≡ option_map_or (test text) kept false)
      → ((text : List ℕ) (number : ℕ) → (seq == number) ≡ false → new text number ≡ old text number) → AreFound test new_works new
  found-set here elsewhere text number =
      elim (cases_Bool (seq == number)) as (λ _. new text number ≡ option_map_or (test text) (at new_works number) false) [
        | inl is ↦ subst (λ n. new text n ≡ option_map_or (test text) (at new_works n) false) (eqb-true seq number is)
            (here text ∙ ap (λ found. option_map_or (test text) found false)
            (sym (set seq ∙ ap (λ b. cond b kept (at old_works seq)) (at-test seq seq ∙ eq-eqb seq seq refl))))
        | inr isnt ↦ elsewhere text number isnt ∙ found text number
            ∙ ap (λ found. option_map_or (test text) found false) (sym (set number ∙ ap (λ b. cond b kept (at old_works number)) (at-test seq number ∙ isnt)))
      ]

  -- and of those that keep the others
  pub found-kept : (changed : List ℕ → Bool) → ((text : List ℕ) → new text seq ≡ option_map_or (test text) kept false) → KeepsOthers changed seq old new
      → AreFound test new_works new
  found-kept changed here keeps = found-set here (λ text number isnt. keeps text number (ap (λ b. b && changed text) isnt))

  abbrev Was : Option Kept → Type 0
  Was was = at old_works seq ≡ was

  was-there : (was : Option Kept) → Was was → (text : List ℕ) → old text seq ≡ option_map_or (test text) was false
  was-there was is text = found text seq ∙ ap (λ found. option_map_or (test text) found false) is

  -- more texts
  pub found-joined : (was : Option Kept) (more : List ℕ → Bool) → Was was
      → ((text : List ℕ) → option_map_or (test text) kept false ≡ (option_map_or (test text) was false || more text)) → IsJoined more seq old new
      → AreFound test new_works new
  found-joined was more is both joined =
      found-kept more (λ text. joined text seq ∙ ap (λ b. b || (seq == seq && more text)) (was-there was is text)
      ∙ ap (λ b. option_map_or (test text) was false || (b && more text)) (eq-eqb seq seq refl) ∙ sym (both text))
      (joined-others more seq old new joined)

  -- fewer texts
  pub found-parted : (was : Option Kept) (less : List ℕ → Bool) → Was was
      → ((text : List ℕ) → option_map_or (test text) kept false ≡ (option_map_or (test text) was false && not (less text))) → IsParted less seq old new
      → AreFound test new_works new
  found-parted was less is both parted =
      found-kept less (λ text. parted text seq ∙ ap (λ b. b && not (seq == seq && less text)) (was-there was is text)
      ∙ ap (λ b. option_map_or (test text) was false && not (b && less text)) (eq-eqb seq seq refl) ∙ sym (both text))
      (parted-others less seq old new parted)

-- a table that is as it was
pub found-same : (test : List ℕ → Kept → Bool) (seq : ℕ) (was kept : Kept) (old_works new_works : List (ℕ × Kept)) (table : Table)
    → AreFound test old_works table → IsSetAt seq (Some kept) old_works new_works → at old_works seq ≡ Some was
    → ((text : List ℕ) → test text kept ≡ test text was) → AreFound test new_works table
found-same test seq was kept old_works new_works table found set is same =
    found-set test seq (Some kept) old_works new_works table table found set
    (λ text. found text seq ∙ ap (λ found. option_map_or (test text) found false) is ∙ sym (same text)) (λ text number isnt. refl)

-- one that is equal in each place
pub found-restored : (test : List ℕ → Kept → Bool) (works : List (ℕ × Kept)) (old new : Table) → AreFound test works old
    → ((text : List ℕ) (number : ℕ) → new text number ≡ old text number) → AreFound test works new
found-restored test works old new found same text number = same text number ∙ found text number

-- what has begun to come is taken back, where none of it was there
pub taken-back : (test : List ℕ → Bool) (seq : ℕ) (old mid new : Table) → KeepsOthers test seq old mid → IsParted test seq mid new
    → ((text : List ℕ) → test text ≡ true → old text seq ≡ false) → (text : List ℕ) (number : ℕ) → new text number ≡ old text number
taken-back test seq old mid new keeps parted absent text number =
    elim (cases_Bool (seq == number && test text)) as (λ _. new text number ≡ old text number) [
      | inl is ↦
          (let parts = and_parts (seq == number) (test text) is in
          parted text number ∙ ap (λ b. mid text number && not b) is ∙ and-false (mid text number)
          ∙ sym (subst (λ n. old text n ≡ false) (eqb-true seq number parts.0) (absent text parts.1)))
      | inr isnt ↦ parted text number ∙ ap (λ b. mid text number && not b) isnt ∙ and-true (mid text number) ∙ keeps text number isnt
    ]

-- ---- ids

id-test : (b : Bool) (seq number : ℕ) (found : Option ℕ) → option_map_or (λ n. n == number) (cond b (Some seq) found) false
    ≡ cond b (seq == number) (option_map_or (λ n. n == number) found false)
id-test true seq number found = refl
id-test false seq number found = refl

pub ids-joined : (id : List ℕ) (seq : ℕ) (old new : List (List ℕ × ℕ)) → lookup (bytes_eq id) old ≡ None
    → ((q : List ℕ) → lookup (bytes_eq q) new ≡ cond (bytes_eq id q) (Some seq) (lookup (bytes_eq q) old)) → IsJoined (bytes_eq id) seq (has_id old) (has_id new)
ids-joined id seq old new absent set q number =
    ap (λ found. option_map_or (λ n. n == number) found false) (set q) ∙ id-test (bytes_eq id q) seq number (lookup (bytes_eq q) old)
    ∙ elim (cases_Bool (bytes_eq id q)) as (λ _. cond (bytes_eq id q) (seq == number) (has_id old q number) ≡ (has_id old q number || (seq == number && bytes_eq id q))) [
      | inl is ↦
          (let none : lookup (bytes_eq q) old ≡ None = subst (λ t. lookup (bytes_eq t) old ≡ None) (bytes-same id q is) absent in
          rw (is, none) (sym (and-true (seq == number))))
      | inr isnt ↦ rw isnt (sym (ap (λ b. has_id old q number || b) (and-false (seq == number)) ∙ or-false (has_id old q number)))
    ]

-- ---- tags

tag-swap : (tags : List (List ℕ)) (one other : List ℕ) → bytes_eq one other ≡ true → has_tag tags one ≡ has_tag tags other
tag-swap tags one other is = ap (has_tag tags) (bytes-same one other is)

-- what a work hasn't isn't among its own
pub missing-absent : (tags own : List (List ℕ)) (text : List ℕ) → has_tag (filter (λ tag. not (has_tag own tag)) tags) text ≡ true → has_tag own text ≡ false
missing-absent tags own text missing =
    let any = sym (list_any-kept (λ tag. bytes_eq tag text) (λ tag. not (has_tag own tag)) tags
    ∙ list_any-agree (λ tag. bytes_eq tag text && not (has_tag own tag)) (λ tag. bytes_eq tag text && not (has_tag own text)) tags
    (All-any tags (λ tag. under (bytes_eq tag text) (not (has_tag own tag)) (not (has_tag own text)) (λ is. ap not (tag-swap own tag text is))))
    ∙ any-and (λ tag. bytes_eq tag text) (not (has_tag own text)) tags) ∙ missing in
    not-true (has_tag own text) (and_parts (has_tag tags text) (not (has_tag own text)) any).1

both-kept : (own kept : Bool) → (own && kept) ≡ (own && not (own && not kept))
both-kept true true = refl
both-kept true false = refl
both-kept false kept = refl

pub tags-kept : (tags own : List (List ℕ)) (text : List ℕ) → has_tag (filter (has_tag tags) own) text ≡ (has_tag own text && not (has_tag own text && not (has_tag tags text)))
tags-kept tags own text =
    list_any-kept (λ tag. bytes_eq tag text) (has_tag tags) own
    ∙ list_any-agree (λ tag. bytes_eq tag text && has_tag tags tag) (λ tag. bytes_eq tag text && has_tag tags text) own
    (All-any own (λ tag. under (bytes_eq tag text) (has_tag tags tag) (has_tag tags text) (λ is. tag-swap tags tag text is)))
    ∙ any-and (λ tag. bytes_eq tag text) (has_tag tags text) own ∙ both-kept (has_tag own text) (has_tag tags text)

each-has : (tags all : List (List ℕ)) → ((text : List ℕ) → has_tag tags text ≡ true → has_tag all text ≡ true) → AllByRecursion (λ tag. has_tag all tag ≡ true) tags
each-has [] all wider = tt
each-has (tag ∷ tags) all wider = (wider tag (or_left _ _ (bytes-refl tag)), each-has tags all (λ text has. wider text (or_right _ _ has)))

-- a list has each of its own tags
pub own-kept : (tags : List (List ℕ)) → filter (has_tag tags) tags ≡ tags
own-kept tags = filter-each (has_tag tags) tags (each-has tags tags (λ text has. has))

pub none-missing : (tags : List (List ℕ)) → filter (λ tag. not (has_tag tags tag)) tags ≡ []
none-missing tags = filter-none (λ tag. not (has_tag tags tag)) tags (All-weaker tags (λ tag has. ap not has) (each-has tags tags (λ text has. has)))
