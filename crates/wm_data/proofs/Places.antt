-- The place of a key among entries in the order of their keys.
use Rattle.std.proofs.Common.{◌≡◌, ℕ, zero, suc, ◌+◌, ◌<◌, ◌≤◌, false, List, [], ◌∷◌, length, map, filter, find, get_or, None, Result, Ok, Err, IfOk, IfErr, Less, Equal, Greater, nat_cmp, is_eq, is_lt, is_gt, refl, sym, ap, ◌∙◌, subst, add-one, arith}
use Rattle.std.proofs.lemmas.Cmp.{nat_list_cmp_total, tied_itself}
use Rattle.std.proofs.lemmas.List.Elements.{All-from_all_within, recursion_from_All}
use Rattle.std.proofs.lemmas.List.Sorted.{searchable_from_sorted}
use Rattle.std.proofs.lemmas.Map.Text.{is_eq-slice_cmp}
use Rattle.std.proofs.lemmas.Slice.Eq.{bytes_eq-Decides}
use Rattle.std.specs.Cmp.Lexicographic.{slice_cmp}
use Rattle.std.specs.List.{AllByRecursion, AllWithin}
use Rattle.std.specs.List.Sorted.{IsBinarySearchResult, IsSearchInRange}
use Rattle.std.specs.Ordering.{ordering_reverse}
use Rattle.wm_collections.proofs.Lists.{All-unmap, All-weaker, filter-each, filter-none, find-fails}
use Rattle.wm_collections.specs.Lists.{AscendByBytes}
use Rattle.wm_data.specs.Entries.{is_after, is_at, is_before, IsFoundAt, IsMissingAt}
use Rattle.wm_data.specs.declared.data.DataEntry.{DataEntry}

-- ---- tests that all elements pass, or none

-- ---- keys

abbrev pub keys : List DataEntry → List (List ℕ)
keys entries = map (λ entry. entry.key) entries

-- keys that compare as equal are equal
pub same_key : (key other : List ℕ) → slice_cmp nat_cmp key other ≡ Equal → key ≡ other
same_key key other e = (bytes_eq-Decides key other).0 (sym (is_eq-slice_cmp key other) ∙ ap is_eq e)

-- each entry comes before the key, or each after it
abbrev pub AllBefore : List ℕ → List DataEntry → Type 0
AllBefore key entries = AllByRecursion (λ entry. slice_cmp nat_cmp entry.key key ≡ Less) entries

abbrev pub AllAfter : List ℕ → List DataEntry → Type 0
AllAfter key entries = AllByRecursion (λ entry. slice_cmp nat_cmp entry.key key ≡ Greater) entries

-- the entries after the first of ascending ones
pub later_keys : (first : DataEntry) (entries : List DataEntry) → AscendByBytes (keys (first ∷ entries)) → AllAfter first.key entries
later_keys first entries up =
    All-weaker entries (λ entry less. nat_list_cmp_total.antisymm entry.key first.key ∙ ap ordering_reverse less)
    (All-unmap _ (λ entry. entry.key) entries up.0)

-- ---- where entries all lie on one side

none_at_after : (key : List ℕ) (entries : List DataEntry) → AllAfter key entries → find (is_at key) entries ≡ None
none_at_after key entries h = find-fails (is_at key) entries (All-weaker entries (λ entry e. ap is_eq e) h)

none_before_after : (key : List ℕ) (entries : List DataEntry) → AllAfter key entries → filter (is_before key) entries ≡ []
none_before_after key entries h = filter-none (is_before key) entries (All-weaker entries (λ entry e. ap is_lt e) h)

all_after_after : (key : List ℕ) (entries : List DataEntry) → AllAfter key entries → filter (is_after key) entries ≡ entries
all_after_after key entries h = filter-each (is_after key) entries (All-weaker entries (λ entry e. ap is_gt e) h)

-- ---- the place

IsFoundAt-here : (key : List ℕ) (first : DataEntry) (entries : List DataEntry) → slice_cmp nat_cmp first.key key ≡ Equal → AllAfter key entries
    → IsFoundAt key (first ∷ entries) 0
IsFoundAt-here key first entries equal after = record {
  within = omega arith;
  before = rw equal (sym (none_before_after key entries after));
  here = rw equal;
  after = rw equal (sym (all_after_after key entries after));
}

IsFoundAt-later : (key : List ℕ) (first : DataEntry) (entries : List DataEntry) (index : ℕ) → slice_cmp nat_cmp first.key key ≡ Less
    → IsFoundAt key entries index → IsFoundAt key (first ∷ entries) (suc index)
IsFoundAt-later key first entries index less found = record {
  within = omega (arith, found.within);
  before = rw less (ap (λ rest. first ∷ rest) found.before);
  here = rw less found.here;
  after = rw (less, add-one) (rw add-one at found.after);
}

IsMissingAt-later : (key : List ℕ) (first : DataEntry) (entries : List DataEntry) (index : ℕ) → slice_cmp nat_cmp first.key key ≡ Less
    → IsMissingAt key entries index → IsMissingAt key (first ∷ entries) (suc index)
IsMissingAt-later key first entries index less missing = record {
  within = omega (arith, missing.within);
  before = rw less (ap (λ rest. first ∷ rest) missing.before);
  none = rw less missing.none;
  after = rw less missing.after;
}

-- the first key is before each later one
pub first_before : (first : DataEntry) (entries : List DataEntry) (index : ℕ) (d : DataEntry) → AscendByBytes (keys (first ∷ entries)) → index < length entries
    → slice_cmp nat_cmp first.key (get_or entries index d).key ≡ Less
first_before first (entry ∷ entries) zero d up h = up.0.0
first_before first (entry ∷ entries) (suc index) d up h = first_before first entries index d (up.0.1, up.1.1) (omega arith)
first_before first [] index d up h = absurd (omega arith)

pub IsFoundAt-equal : (key : List ℕ) (entries : List DataEntry) (index : ℕ) (d : DataEntry) → AscendByBytes (keys entries) → index < length entries
    → (get_or entries index d).key ≡ key → IsFoundAt key entries index
IsFoundAt-equal key [] index d up h e = absurd (omega arith)
IsFoundAt-equal key (entry ∷ entries) zero d up h e =
    IsFoundAt-here key entry entries (rw e (tied_itself nat_list_cmp_total key)) (subst (λ k. AllAfter k entries) e (later_keys entry entries up))
IsFoundAt-equal key (entry ∷ entries) (suc index) d up h e =
    let less : slice_cmp nat_cmp entry.key key ≡ Less =
    subst (λ k. slice_cmp nat_cmp entry.key k ≡ Less) e (first_before entry entries index d up (omega arith)) in
    IsFoundAt-later key entry entries index less (IsFoundAt-equal key entries index d up.1 (omega arith) e)

IsMissingAt-between : (key : List ℕ) (entries : List DataEntry) (index : ℕ) → index ≤ length entries
    → AllWithin (λ entry. slice_cmp nat_cmp entry.key key ≡ Less) entries 0 index
    → AllWithin (λ entry. slice_cmp nat_cmp entry.key key ≡ Greater) entries index (length entries) → IsMissingAt key entries index
IsMissingAt-between key [] zero h less greater = record { within = omega arith; before = refl; none = refl; after = refl }
IsMissingAt-between key [] (suc index) h less greater = absurd (omega arith)
IsMissingAt-between key (entry ∷ entries) zero h less greater =
    let after : AllAfter key (entry ∷ entries) =
    recursion_from_All (λ e. slice_cmp nat_cmp e.key key ≡ Greater) (entry ∷ entries)
    (All-from_all_within (λ e. slice_cmp nat_cmp e.key key ≡ Greater) (entry ∷ entries) greater) in
    record {
      within = omega arith;
      before = sym (none_before_after key (entry ∷ entries) after);
      none = none_at_after key (entry ∷ entries) after;
      after = sym (all_after_after key (entry ∷ entries) after);
    }
IsMissingAt-between key (entry ∷ entries) (suc index) h less greater =
    IsMissingAt-later key entry entries index (less 0 entry (omega arith) (omega arith))
    (IsMissingAt-between key entries index (omega arith) (λ k d low high. less (suc k) d (omega arith) (omega arith))
    (λ k d low high. greater (suc k) d (omega arith) (omega arith)))

-- entries whose keys ascend are in order at each place
in_order : (entries : List DataEntry) (k : ℕ) (d : DataEntry) → AscendByBytes (keys entries) → k + 1 < length entries
    → is_lt (slice_cmp nat_cmp (get_or entries (k + 1) d).key (get_or entries k d).key) ≡ false
in_order [] k d up h = absurd (omega arith)
in_order (entry ∷ entries) zero d up h =
    ap is_lt (nat_list_cmp_total.antisymm _ entry.key ∙ ap ordering_reverse (first_before entry entries 0 d up (omega arith)))
in_order (entry ∷ entries) (suc k) d up h = rw add-one (rw add-one at (in_order entries k d up.1 (omega arith)))

-- what a binary search by the keys answers
pub IsFoundAt-search : (key : List ℕ) (entries : List DataEntry) (answer : Result ℕ ℕ) → AscendByBytes (keys entries)
    → IsSearchInRange answer (length entries) → IsBinarySearchResult (λ entry. slice_cmp nat_cmp entry.key key) entries answer
    → IfOk answer (IsFoundAt key entries) × IfErr answer (IsMissingAt key entries)
IsFoundAt-search key [] (Ok index) up range is = absurd (omega arith)
IsFoundAt-search key (entry ∷ entries) (Ok index) up range is = (IsFoundAt-equal key (entry ∷ entries) index entry up range (same_key _ key (is entry)), tt)
IsFoundAt-search key entries (Err index) up range is =
    let parted = is (searchable_from_sorted nat_list_cmp_total (λ entry. entry.key) entries key (λ k d low high. in_order entries k d up high)) in
    (tt, IsMissingAt-between key entries index range parted.0 parted.1)
