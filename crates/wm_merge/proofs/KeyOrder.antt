-- The entries and keys of ordered ones, with one more.
use Rattle.std.proofs.Common.{◌≡◌, ℕ, zero, suc, ◌≤◌, Bool, true, false, ◌||◌, cond, List, [], ◌∷◌, ◌++◌, length, filter, filter_map, find, get_or, set, Option, None, Some, Ordering, Less, Equal, Greater, nat_cmp, is_eq, is_lt, is_gt, refl, sym, ap, ◌∙◌, subst, true≢false}
use Rattle.std.proofs.lemmas.Cmp.{nat_list_cmp_total, tied_itself}
use Rattle.std.proofs.lemmas.List.{map-append}
use Rattle.std.proofs.lemmas.List.Folds.{find-append}
use Rattle.std.specs.Cmp.Lexicographic.{slice_cmp}
use Rattle.std.specs.List.{AllByRecursion}
use Rattle.std.specs.Option.{option_or}
use Rattle.std.specs.Ordering.{ordering_reverse}
use Rattle.wm_collections.proofs.Lists.{All-weaker, filter-each, filter-none, filter_map-same, find-same, map-filter}
use Rattle.wm_collections.specs.Lists.{AscendByBytes}
use Rattle.wm_data.specs.Entries.{is_after, is_at, is_before, with_entry}
use Rattle.wm_data.specs.declared.data.DataEntry.{DataEntry}
use Rattle.wm_data.proofs.Places.{keys, same_key}
use Rattle.wm_merge.specs.Growing.{least_of, noted}
use Rattle.wm_merge.specs.Inputs.{with_key}

-- ---- tests and lists

is_false : (b : Bool) → (b ≡ true → ⊥) → b ≡ false
is_false true h = absurd (h refl)
is_false false h = refl

find_kept : {X : Type 0} (p : X → Bool) (x : X) (ys xs : List X) (b : Bool) → (p x ≡ true → b ≡ true) → find p ys ≡ find p xs
    → find p (cond b (x ∷ ys) ys) ≡ cond (p x) (Some x) (find p xs)
find_kept p x ys xs true h e = ap (cond (p x) (Some x)) e
find_kept p x ys xs false h e = rw (is_false (p x) (λ t. true≢false (sym (h t)))) e

-- a look-up among those that pass a test which each that is looked for passes, or none
find_filter : {X : Type 0} (p q : X → Bool) → ((x : X) → p x ≡ true → q x ≡ true) → (xs : List X) → find p (filter q xs) ≡ find p xs
find_filter p q h [] = refl
find_filter p q h (x ∷ xs) = find_kept p x (filter q xs) xs (q x) (h x) (find_filter p q h xs)

find_dropped : {X : Type 0} (p : X → Bool) (x : X) (ys : List X) (b : Bool) → (p x ≡ true → b ≡ false) → find p ys ≡ None → find p (cond b (x ∷ ys) ys) ≡ None
find_dropped p x ys true h e = rw (is_false (p x) (λ t. true≢false (h t))) e
find_dropped p x ys false h e = e

find_filter_none : {X : Type 0} (p q : X → Bool) → ((x : X) → p x ≡ true → q x ≡ false) → (xs : List X) → find p (filter q xs) ≡ None
find_filter_none p q h [] = refl
find_filter_none p q h (x ∷ xs) = find_dropped p x (filter q xs) (q x) (h x) (find_filter_none p q h xs)

option_or_none : {X : Type 0} (o : Option X) → option_or o None ≡ o
option_or_none None = refl
option_or_none (Some x) = refl

-- ---- a look-up

equal : (o : Ordering) → is_eq o ≡ true → o ≡ Equal
equal Less e = absurd (true≢false (sym e))
equal Equal e = refl
equal Greater e = absurd (true≢false (sym e))

-- an entry at a key has it
pub key_at : (key : List ℕ) (entry : DataEntry) → is_at key entry ≡ true → entry.key ≡ key
key_at key entry e = same_key entry.key key (equal _ e)

-- what an entry at a key is by the order of another key
at_by : (test : Ordering → Bool) (key other : List ℕ) (o : Ordering) → slice_cmp nat_cmp key other ≡ o → (entry : DataEntry) → is_at key entry ≡ true
    → test (slice_cmp nat_cmp entry.key other) ≡ test o
at_by test key other o e entry at = ap (λ k. test (slice_cmp nat_cmp k other)) (key_at key entry at) ∙ ap test e

find_by_order : (key : List ℕ) (entry : DataEntry) (entries : List DataEntry) (o : Ordering) → slice_cmp nat_cmp entry.key key ≡ o
    → option_or (find (is_at key) (filter (is_before entry.key) entries)) (cond (is_eq o) (Some entry) (find (is_at key) (filter (is_after entry.key) entries)))
    ≡ cond (is_eq o) (Some entry) (find (is_at key) entries)
find_by_order key entry entries Less e =
    let back = nat_list_cmp_total.antisymm key entry.key ∙ ap ordering_reverse e in
    rw (
      find_filter_none (is_at key) (is_before entry.key) (at_by is_lt key entry.key Greater back) entries,
      find_filter (is_at key) (is_after entry.key) (at_by is_gt key entry.key Greater back) entries,
    ) refl
find_by_order key entry entries Equal e =
    let back = nat_list_cmp_total.antisymm key entry.key ∙ ap ordering_reverse e in
    rw (find_filter_none (is_at key) (is_before entry.key) (at_by is_lt key entry.key Equal back) entries) refl
find_by_order key entry entries Greater e =
    let back = nat_list_cmp_total.antisymm key entry.key ∙ ap ordering_reverse e in
    rw (
      find_filter (is_at key) (is_before entry.key) (at_by is_lt key entry.key Less back) entries,
      find_filter_none (is_at key) (is_after entry.key) (at_by is_gt key entry.key Less back) entries,
    ) (option_or_none (find (is_at key) entries))

pub find-with_entry : (key : List ℕ) (entry : DataEntry) (entries : List DataEntry)
    → find (is_at key) (with_entry entry entries) ≡ cond (is_at key entry) (Some entry) (find (is_at key) entries)
find-with_entry key entry entries =
    find-append (is_at key) (filter (is_before entry.key) entries) (entry ∷ filter (is_after entry.key) entries)
    ∙ find_by_order key entry entries (slice_cmp nat_cmp entry.key key) refl

pub keys-with_entry : (entry : DataEntry) (entries : List DataEntry) → keys (with_entry entry entries) ≡ with_key entry.key (keys entries)
keys-with_entry entry entries =
    map-append (λ e. e.key) (filter (is_before entry.key) entries) (entry ∷ filter (is_after entry.key) entries)
    ∙ ap (λ front. front ++ entry.key ∷ keys (filter (is_after entry.key) entries))
    (map-filter (λ e. e.key) (λ k. is_lt (slice_cmp nat_cmp k entry.key)) entries)
    ∙ ap (λ back. filter (λ k. is_lt (slice_cmp nat_cmp k entry.key)) (keys entries) ++ entry.key ∷ back)
    (map-filter (λ e. e.key) (λ k. is_gt (slice_cmp nat_cmp k entry.key)) entries)

-- entries whose keys ascend are what is found under their keys
pub found_by_keys : (entries : List DataEntry) → AscendByBytes (keys entries) → filter_map (λ key. find (is_at key) entries) (keys entries) ≡ entries
found_by_keys [] up = refl
found_by_keys (entry ∷ entries) up =
    rw (tied_itself nat_list_cmp_total entry.key) (ap (λ rest. entry ∷ rest)
    (filter_map-same (λ key. find (is_at key) (entry ∷ entries)) (λ key. find (is_at key) entries) (keys entries)
    (All-weaker (keys entries) (λ key less. rw less refl) up.0) ∙ found_by_keys entries up.1))

-- ---- the least key

abbrev AllAfter : List ℕ → List (List ℕ) → Type 0
AllAfter key ks = AllByRecursion (λ k. slice_cmp nat_cmp k key ≡ Greater) ks

reversed : (key other : List ℕ) (o : Ordering) → slice_cmp nat_cmp other key ≡ o → slice_cmp nat_cmp key other ≡ ordering_reverse o
reversed key other o e = nat_list_cmp_total.antisymm key other ∙ ap ordering_reverse e

with_key-before : (key : List ℕ) (ks : List (List ℕ)) → AllAfter key ks → with_key key ks ≡ key ∷ ks
with_key-before key ks after = rw (
  filter-none (λ k. is_lt (slice_cmp nat_cmp k key)) ks (All-weaker ks (λ k e. ap is_lt e) after),
  filter-each (λ k. is_gt (slice_cmp nat_cmp k key)) ks (All-weaker ks (λ k e. ap is_gt e) after),
) refl

least_cond : (key k : List ℕ) (b : Bool) (rest : Option (List ℕ)) → slice_cmp nat_cmp key k ≡ Less → least_of key rest ≡ Some key
    → least_of key (cond b (Some k) rest) ≡ Some key
least_cond key k true rest less e = rw less refl
least_cond key k false rest less e = e

least_of-before : (key : List ℕ) (p : List ℕ → Bool) (ks : List (List ℕ)) → AllAfter key ks → least_of key (find p ks) ≡ Some key
least_of-before key p [] after = refl
least_of-before key p (k ∷ ks) after = least_cond key k (p k) (find p ks) (reversed key k Greater after.0) (least_of-before key p ks after.1)

noted-after : (mixed : Bool) (key k : List ℕ) → is_lt (slice_cmp nat_cmp key k) ≡ false → noted mixed key (Some k) ≡ Some k
noted-after true key k e = rw e refl
noted-after false key k e = refl

noted-before : (mixed : Bool) (key : List ℕ) (rest : Option (List ℕ)) → least_of key rest ≡ Some key → cond mixed (Some key) rest ≡ noted mixed key rest
noted-before true key rest e = sym e
noted-before false key rest e = refl

-- a test that changes at one key alone, which passes where it did or there is a conflict
pub record IsChanged (key : List ℕ) (p q : List ℕ → Bool) (mixed : Bool) : Type 0 where
  pub at : q key ≡ (p key || mixed)
  pub off : (k : List ℕ) → is_eq (slice_cmp nat_cmp key k) ≡ false → q k ≡ p k

find_before : (key : List ℕ) (p q : List ℕ → Bool) (mixed : Bool) (ks : List (List ℕ)) → IsChanged key p q mixed → AllAfter key ks → p key ≡ false
    → find q (key ∷ ks) ≡ noted mixed key (find p ks)
find_before key p q mixed ks changed after none =
    rw (
      changed.at,
      none,
      find-same q p ks (All-weaker ks (λ k e. changed.off k (ap is_eq (reversed key k Greater e))) after),
    ) (noted-before mixed key (find p ks) (least_of-before key p ks after))

-- the first key is the key itself
find_here : (key : List ℕ) (p q : List ℕ → Bool) (mixed : Bool) (ks : List (List ℕ)) → IsChanged key p q mixed → AllAfter key ks → (b : Bool) → p key ≡ b
    → find q (key ∷ ks) ≡ noted mixed key (cond b (Some key) (find p ks))
find_here key p q mixed ks changed after true e = rw (changed.at, e) (sym (noted-after mixed key key (ap is_lt (tied_itself nat_list_cmp_total key))))
find_here key p q mixed ks changed after false e = find_before key p q mixed ks changed after e

-- the first key is before the key
find_past : (key k : List ℕ) (mixed b : Bool) (rest : Option (List ℕ)) → slice_cmp nat_cmp key k ≡ Greater
    → cond b (Some k) (noted mixed key rest) ≡ noted mixed key (cond b (Some k) rest)
find_past key k mixed true rest e = sym (noted-after mixed key k (ap is_lt e))
find_past key k mixed false rest e = refl

abbrev IsMissing : List ℕ → List (List ℕ) → Type 0
IsMissing key ks = AllByRecursion (λ k. is_eq (slice_cmp nat_cmp k key) ≡ false) ks

find_by_first : (key : List ℕ) (p q : List ℕ → Bool) (mixed : Bool) (k : List ℕ) (ks : List (List ℕ)) (o : Ordering) → slice_cmp nat_cmp k key ≡ o
    → IsChanged key p q mixed → AscendByBytes (k ∷ ks) → (IsMissing key (k ∷ ks) → p key ≡ false)
    → ((IsMissing key ks → p key ≡ false) → find q (with_key key ks) ≡ noted mixed key (find p ks))
    → find q (with_key key (k ∷ ks)) ≡ noted mixed key (find p (k ∷ ks))
find_by_first key p q mixed k ks Less e changed up there later =
    let after = reversed key k Less e in
    rw (e, changed.off k (ap is_eq after), later (λ all. there (ap is_eq e, all))) (find_past key k mixed (p k) (find p ks) after)
find_by_first key p q mixed k ks Equal e changed up there later =
    let same = same_key k key e in
    let after : AllAfter key ks = All-weaker ks (λ x less. ap (λ y. slice_cmp nat_cmp x y) (sym same) ∙ reversed x k Less less) up.0 in
    rw (e, with_key-before key ks after, same) (find_here key p q mixed ks changed after (p key) refl)
find_by_first key p q mixed k ks Greater e changed up there later =
    let after : AllAfter key (k ∷ ks) = (
      e,
      All-weaker ks (λ x less. reversed x key Less (nat_list_cmp_total.trans key k x (reversed key k Greater e) less)) up.0,
    ) in
    rw (with_key-before key (k ∷ ks) after) (find_before key p q mixed (k ∷ ks) changed after (there (All-weaker (k ∷ ks) (λ x e. ap is_eq e) after)))

-- the least key that passes, with a key more
pub find-with_key : (key : List ℕ) (p q : List ℕ → Bool) (mixed : Bool) (ks : List (List ℕ)) → IsChanged key p q mixed → AscendByBytes ks
    → (AllByRecursion (λ k. is_eq (slice_cmp nat_cmp k key) ≡ false) ks → p key ≡ false) → find q (with_key key ks) ≡ noted mixed key (find p ks)
find-with_key key p q mixed [] changed up there = find_before key p q mixed [] changed tt (there tt)
find-with_key key p q mixed (k ∷ ks) changed up there =
    find_by_first key p q mixed k ks (slice_cmp nat_cmp k key) refl changed up there (λ missing. find-with_key key p q mixed ks changed up.1 missing)

-- ---- an entry in the place of one of its key

pub keys-set : (entries : List DataEntry) (index : ℕ) (entry d : DataEntry) → entry.key ≡ (get_or entries index d).key
    → keys (set entries index entry) ≡ keys entries
keys-set [] index entry d e = refl
keys-set (first ∷ entries) zero entry d e = ap (λ key. key ∷ keys entries) e
keys-set (first ∷ entries) (suc index) entry d e = ap (λ rest. first.key ∷ rest) (keys-set entries index entry d e)

pub named-set : (entries : List DataEntry) (index : ℕ) (entry d : DataEntry) → entry.key ≡ (get_or entries index d).key
    → AllByRecursion (λ e. 1 ≤ length e.key) entries → AllByRecursion (λ e. 1 ≤ length e.key) (set entries index entry)
named-set [] index entry d e named = tt
named-set (first ∷ entries) zero entry d e named = (subst (λ key. 1 ≤ length key) (sym e) named.0, named.1)
named-set (first ∷ entries) (suc index) entry d e named = (named.0, named-set entries index entry d e named.1)
