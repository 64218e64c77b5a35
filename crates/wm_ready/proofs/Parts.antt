-- The parts of the keys, and how they follow them.
use Rattle.std.proofs.Common.{◌≡◌, ◌⊎◌, inl, inr, Bool, true, false, cond, arith, refl, sym, ◌∙◌, ap, subst, List, [], ◌∷◌, Option, None, Some, IfSome, MatchOption, Equal, Greater, Less, Result, Ok, Err, OnErr, OnOk}
use Rattle.std.proofs.lemmas.Bool.{false≢true}
use Rattle.std.proofs.lemmas.Bool.Decides.{nat_tests}
use Rattle.std.specs.BTreeMap.{is_at, BTreeMap, Updates as MapUpdates}
use Rattle.std.specs.BTreeSet.{contains, insert_key, BTreeSet, Updates}
use Rattle.std.specs.List.{list_any}
use Rattle.std.specs.Ordering.{is_eq}
use Rattle.std.specs.Set.{remove_key}
use Rattle.std.specs.declared.cmp.Ordering.{Ordering}
use Rattle.wm_ready.proofs.Entering.{either, latter}
use Rattle.wm_ready.proofs.Leasts.{earlier-on}
use Rattle.wm_ready.specs.Entries.{Part}
use Rattle.wm_ready.specs.Keys.{first_in, key_at, key_cmp, part_cmp, part_of, place_of, AreParts, HasKey, IsEarlier, IsFirstIn, IsFirstOf, IsOf, IsSooner, Key, NoneOf, Place}

alike-part : (one part : Part) → is_eq (part_cmp one part) ≡ true → one ≡ part
alike-part one part same i =
    let class : one.0 ≡ part.0 = grind (arith, nat_tests) in
    let signature : one.1 ≡ part.1 = grind (arith, nat_tests) in
    (class i, signature i)

-- a key of another part is another key
beside : (key other : Key) (part : Part) → is_at (part_cmp (part_of key)) part ≡ false → IsOf part 0 other → is_at (key_cmp key) other ≡ false
beside key other part apart like = grind (arith, nat_tests, like.class, like.signature)

same-place : (key : Key) (place : Place) → is_eq (key_cmp key (key_at (part_of key) place)) ≡ true → place ≡ place_of key
same-place key place same i =
    let due : place.0 ≡ key.2 = grind (arith, nat_tests) in
    let seq : place.1 ≡ key.3 = grind (arith, nat_tests) in
    (due i, seq i)

same-earlier : (key other : Key) → is_eq (key_cmp key other) ≡ true → IsEarlier key other
same-earlier key other same = grind (arith, nat_tests)

true-or-false : (b : Bool) → (b ≡ true) ⊎ (b ≡ false)
true-or-false true = inl refl
true-or-false false = inr refl

or-true : (b c : Bool) → c ≡ true → cond b true c ≡ true
or-true true c given = refl
or-true false c given = given

itself-equal : (key : Key) → key_cmp key key ≡ Equal
itself-equal key = grind (arith, nat_tests)

had : (key other : Key) (old new : BTreeSet Key) → Updates key_cmp old new key false → HasKey new other → HasKey old other
had key other old new updates has = latter (is_at (key_cmp key) other) (contains key_cmp old other) (sym (updates.0 other) ∙ has)

-- a first key stays the first where the keys of its part stay
first-stays : (part : Part) (first : Option Place) (old new : BTreeSet Key)
    → ((other : Key) → IsOf part 0 other → contains key_cmp new other ≡ contains key_cmp old other) → IsFirstIn old part first → IsFirstIn new part first
first-stays part None old new same none = λ other has like. none other (sym (same other like) ∙ has) like
first-stays part (Some place) old new same first = record {
  there = same (key_at part place) first.alike ∙ first.there;
  alike = first.alike;
  least = λ other has like. first.least other (sym (same other like) ∙ has) like;
}

before : (key : Key) (first : Option Place) (keys : BTreeSet Key) → IfSome first (IsSooner (place_of key)) → IsFirstIn keys (part_of key) first
    → (other : Key) → HasKey keys other → IsOf (part_of key) 0 other → IsEarlier key other
before key None keys sooner none other has like = absurd (none other has like)
before key (Some place) keys sooner is other has like = earlier-on key (key_at (part_of key) place) other sooner (is.least other has like)

-- a key more, which comes before the first of its part
pub more-first : (key : Key) (first : Option Place) (old new : BTreeSet Key) → Updates key_cmp old new key true → IfSome first (IsSooner (place_of key))
    → IsFirstIn old (part_of key) first → IsFirstIn new (part_of key) (Some (place_of key))
more-first key first old new updates sooner is = record {
  there = updates.1;
  alike = record { class = refl; signature = refl; due = omega arith };
  least = λ other has like. elim (either (is_at (key_cmp key) other) (contains key_cmp old other) (sym (updates.0 other) ∙ has)) as (λ _. IsEarlier key other) [
    | inl same ↦ same-earlier key other same
    | inr stood ↦ before key first old sooner is other stood like
  ];
}

-- a key more, which comes after it
pub more-behind : (key : Key) (first : Option Place) (old new : BTreeSet Key) → Updates key_cmp old new key true
    → MatchOption first ⊥ (λ place. IsSooner place (place_of key)) → IsFirstIn old (part_of key) first → IsFirstIn new (part_of key) first
more-behind key None old new updates sooner none = absurd sooner
more-behind key (Some place) old new updates sooner is =
    let first = key_at (part_of key) place in
    record {
      there = updates.0 first ∙ or-true (is_at (key_cmp key) first) (contains key_cmp old first) is.there;
      alike = is.alike;
      least = λ other has like. elim (either (is_at (key_cmp key) other) (contains key_cmp old other) (sym (updates.0 other) ∙ has)) as (λ _. IsEarlier first other) [
        | inl same ↦ earlier-on first key other sooner (same-earlier key other same)
        | inr stood ↦ is.least other stood like
      ];
    }

-- a key fewer, which wasn't the first of its part
pub fewer-behind : (key : Key) (first : Option Place) (old new : BTreeSet Key) → Updates key_cmp old new key false → (first ≡ Some (place_of key) → ⊥)
    → IsFirstIn old (part_of key) first → IsFirstIn new (part_of key) first
fewer-behind key None old new updates apart none = λ other has like. none other (had key other old new updates has) like
fewer-behind key (Some place) old new updates apart is =
    let first = key_at (part_of key) place in
    record {
      there = elim (true-or-false (is_at (key_cmp key) first)) as (λ _. HasKey new first) [
        | inl same ↦ absurd (apart (ap Some (same-place key place same)))
        | inr other ↦ updates.2 first other ∙ is.there
      ];
      alike = is.alike;
      least = λ other has like. is.least other (had key other old new updates has) like;
    }

-- ---- one key more or fewer

module _ (key : Key) (old new : BTreeSet Key) (there : Bool) (updates : Updates key_cmp old new key there) where
  other-part : (part : Part) (first : Option Place) → is_at (part_cmp (part_of key)) part ≡ false → IsFirstIn old part first → IsFirstIn new part first
  other-part part first apart is = first-stays part first old new (λ other like. updates.2 other (beside key other part apart like)) is

  -- what is kept stays
  pub parts-stay : (parts : BTreeMap Part Place) → IsFirstIn new (part_of key) (first_in parts (part_of key)) → AreParts old parts → AreParts new parts
  parts-stay parts is are part = elim (true-or-false (is_at (part_cmp (part_of key)) part)) as (λ _. IsFirstIn new part (first_in parts part)) [
    | inl same ↦ subst (λ (one : Part). IsFirstIn new one (first_in parts one)) (alike-part (part_of key) part same) is
    | inr apart ↦ other-part part (first_in parts part) apart (are part)
  ]

  -- or its part's first key is another one
  pub parts-set : (before after : BTreeMap Part Place) (first : Option Place) → MapUpdates part_cmp before after (part_of key) first
      → IsFirstIn new (part_of key) first → AreParts old before → AreParts new after
  parts-set before after first set is are part = elim (true-or-false (is_at (part_cmp (part_of key)) part)) as (λ _. IsFirstIn new part (first_in after part)) [
    | inl same ↦ subst (λ (one : Part). IsFirstIn new one (first_in after one)) (alike-part (part_of key) part same)
        (subst (IsFirstIn new (part_of key)) (sym set.1) is)
    | inr apart ↦ subst (IsFirstIn new part) (sym (set.2 part apart)) (other-part part (first_in before part) apart (are part))
  ]

-- ---- memory is refused

-- where nothing is kept for a part, none of its keys is there
pub none-of : (keys : BTreeSet Key) (parts : BTreeMap Part Place) (part : Part) → AreParts keys parts → first_in parts part ≡ None → NoneOf keys part 0
none-of keys parts part are absent = subst (IsFirstIn keys part) absent (are part)

-- so a part of which a key is left takes no memory
pub parts-put : {X Y : Type 0} (result : Result X Y) (key first : Key) (old new : BTreeSet Key) (before after : BTreeMap Part Place) → Updates key_cmp old new key false
    → OnOk result (MapUpdates part_cmp before after (part_of key) (Some (place_of first))) → OnErr result (first_in before (part_of key) ≡ None)
    → IsFirstOf new (part_of key) 0 first → AreParts old before → AreParts new after
parts-put (Ok kept) key first old new before after updates set absent is are =
    let same : first ≡ key_at (part_of key) (place_of first) = λ i. (is.alike.class i, is.alike.signature i, first.2, first.3) in
    parts-set key old new false updates before after (Some (place_of first)) set (subst (IsFirstOf new (part_of key) 0) same is) are
parts-put (Err refused) key first old new before after updates set absent is are =
    absurd (none-of old before (part_of key) are absent first (had key first old new updates is.there) is.alike)

module _ (cmp : Key → Key → Ordering) (key : Key) (itself : cmp key key ≡ Equal) where
  at-head : (one : Key) (keys : List Key) (order : Ordering) → cmp key one ≡ order → list_any (is_at (cmp key)) (one ∷ keys) ≡ false
      → (list_any (is_at (cmp key)) keys ≡ false → remove_key (is_at (cmp key)) (insert_key cmp keys key) ≡ keys)
      → remove_key (is_at (cmp key)) (insert_key cmp (one ∷ keys) key) ≡ one ∷ keys
  at-head one keys Less is none rest = rw (is, itself) refl
  at-head one keys Equal is none rest = absurd (false≢true (sym (rw is at none)))
  at-head one keys Greater is none rest = rw (is, is, rest (rw is at none)) refl

  -- what is put among keys, and taken away again
  put-back : (keys : List Key) → list_any (is_at (cmp key)) keys ≡ false → remove_key (is_at (cmp key)) (insert_key cmp keys key) ≡ keys
  put-back [] none = rw itself refl
  put-back (one ∷ keys) none = at-head one keys (cmp key one) refl none (put-back keys)

-- a key of a part of which none was there is taken away again
pub as-before : (key : Key) (old new back : BTreeSet Key) → NoneOf old (part_of key) 0 → new.keys ≡ insert_key key_cmp old.keys key
    → back.keys ≡ remove_key (is_at (key_cmp key)) new.keys → back ≡ old
as-before key old new back none put gone = elim (true-or-false (contains key_cmp old key)) as (λ _. back ≡ old) [
  | inl has ↦ absurd (none key has (record { class = refl; signature = refl; due = omega arith }))
  | inr absent ↦ (let same = gone ∙ ap (remove_key (is_at (key_cmp key))) put ∙ put-back key_cmp key (itself-equal key) old.keys absent in
      λ i. record { keys = same i })
]
