-- Entries and their keys.
use Rattle.std.proofs.Common.{◌≡◌, ◌⊎◌, inl, inr, ℕ, ◌+◌, ◌≤◌, ◌&&◌, ◌||◌, Bool, true, false, not, cond, List, [], ◌∷◌, map, arith, refl, sym, ◌∙◌}
use Rattle.std.proofs.lemmas.Bool.{and_parts, ltb-true}
use Rattle.std.proofs.lemmas.Bool.Decides.{nat_tests}
use Rattle.std.specs.Prelude.{nat_lt}
use Rattle.std.specs.List.{list_any}
use Rattle.std.specs.Ordering.{is_eq}
use Rattle.std.specs.BTreeMap.{is_at}
use Rattle.std.specs.BTreeSet.{contains, BTreeSet, Updates}
use Rattle.wm_ready.specs.Entries.{has, is_later, is_same, is_startable, Entry, IsFirst, NonePasses}
use Rattle.wm_ready.specs.Keys.{entries_of, entry_of, is_open, key_cmp, Any, AreKeys, HasKey, IsKey, IsLeast, Key}
use Rattle.wm_ready.specs.Puts.{IsDropped, IsPut}

abbrev pub key_of : Entry → Key
key_of entry = (entry.class, entry.sig, entry.due, entry.seq)

same-key : (one : Entry) (key : Key) → is_same one (entry_of key) ≡ is_eq (key_cmp (key_of one) key)
same-key one key = grind (arith, nat_tests)

has-key : (keys : List Key) (entry : Entry) → has (map entry_of keys) entry ≡ list_any (is_at (key_cmp (key_of entry))) keys
has-key [] entry = refl
has-key (key ∷ keys) entry = rw (same-key entry key, has-key keys entry) refl

pub has-entry : (keys : BTreeSet Key) (entry : Entry) → has (entries_of keys) entry ≡ contains key_cmp keys (key_of entry)
has-entry keys entry = has-key keys.keys entry

cond-or : (b : Bool) (c : Bool) → cond b true c ≡ (b || c)
cond-or true c = refl
cond-or false c = refl

cond-and : (b : Bool) (c : Bool) → cond b false c ≡ (c && not b)
cond-and true true = refl
cond-and true false = refl
cond-and false true = refl
cond-and false false = refl

pub put-is : (entry : Entry) (old new : BTreeSet Key) → Updates key_cmp old new (key_of entry) true → IsPut entry (entries_of old) (entries_of new)
put-is entry old new updates other =
    rw (has-entry new other, has-entry old other, same-key entry (key_of other)) (updates.0 (key_of other) ∙ cond-or (is_eq (key_cmp (key_of entry) (key_of other))) (contains key_cmp old (key_of other)))

pub dropped-is : (entry : Entry) (old new : BTreeSet Key) → Updates key_cmp old new (key_of entry) false → IsDropped entry (entries_of old) (entries_of new)
dropped-is entry old new updates other =
    rw (has-entry new other, has-entry old other, same-key entry (key_of other)) (updates.0 (key_of other) ∙ cond-and (is_eq (key_cmp (key_of entry) (key_of other))) (contains key_cmp old (key_of other)))

pub either : (b c : Bool) → cond b true c ≡ true → (b ≡ true) ⊎ (c ≡ true)
either true c given = inl refl
either false c given = inr given

pub latter : (b c : Bool) → cond b false c ≡ true → c ≡ true
latter true c given = absurd cc
latter false c given = given

same-signature : (one key : Key) → is_eq (key_cmp one key) ≡ true → key.1 ≡ one.1
same-signature one key same = grind (arith, nat_tests)

same-due : (one key : Key) → is_eq (key_cmp one key) ≡ true → key.2 ≡ one.2
same-due one key same = grind (arith, nat_tests)

alike-key : (one key : Key) → IsKey one → is_eq (key_cmp one key) ≡ true → IsKey key
alike-key one key is same =
    let signature = same-signature one key same in
    let due = same-due one key same in
    record { signature = omega (arith, is.signature); due = omega (arith, is.due) }

pub put-keys : (key : Key) (old new : BTreeSet Key) → Updates key_cmp old new key true → AreKeys old → IsKey key → AreKeys new
put-keys key old new updates all is other there =
    elim (either (is_at (key_cmp key) other) (contains key_cmp old other) (sym (updates.0 other) ∙ there)) as (λ _. IsKey other) [
      | inl same ↦ alike-key key other is same
      | inr stood ↦ all other stood
    ]

pub dropped-keys : (key : Key) (old new : BTreeSet Key) → Updates key_cmp old new key false → AreKeys old → AreKeys new
dropped-keys key old new updates all other there =
    all other (latter (is_at (key_cmp key) other) (contains key_cmp old other) (sym (updates.0 other) ∙ there))

-- a test of entries that is one of keys
module _ (keys : BTreeSet Key) (asked : Key → Bool) (test : Entry → Bool) (same : (key : Key) → HasKey keys key → asked key ≡ test (entry_of key)) where
  pub first-entry : (key : Key) → IsLeast keys asked Any key → IsFirst (entries_of keys) test (entry_of key)
  first-entry key first = record {
    there = has-entry keys (entry_of key) ∙ first.there;
    passes = sym (same key first.there) ∙ first.passes;
    least = λ other there passes. (let stands = sym (has-entry keys other) ∙ there in
        first.least (key_of other) stands tt (same (key_of other) stands ∙ passes));
  }

  pub none-passes : ((other : Key) → HasKey keys other → Any other → asked other ≡ true → ⊥) → NonePasses (entries_of keys) test
  none-passes none other there passes = let stands = sym (has-entry keys other) ∙ there in none (key_of other) stands tt (same (key_of other) stands ∙ passes)

pub open-startable : (now met : ℕ) (busy : List ℕ) (key : Key) → is_open 0 now met busy key ≡ is_startable now met busy (entry_of key)
open-startable now met busy key = grind (arith, nat_tests)

pub open-later : (now met : ℕ) (busy : List ℕ) (key : Key) → key.2 ≤ 18446744073709551615
    → is_open (now + 1) 18446744073709551615 met busy key ≡ is_later now met busy (entry_of key)
open-later now met busy key low = grind (arith, nat_tests)

-- no entry is due after the last moment
pub none-later : (keys : BTreeSet Key) (met : ℕ) (busy : List ℕ) → AreKeys keys → NonePasses (entries_of keys) (is_later 18446744073709551615 met busy)
none-later keys met busy all other there passes =
    let due = (all (key_of other) (sym (has-entry keys other) ∙ there)).due in
    let after = ltb-true 18446744073709551615 other.due (and_parts (nat_lt 18446744073709551615 other.due) _ passes).0 in
    absurd (omega (arith, due, after))
