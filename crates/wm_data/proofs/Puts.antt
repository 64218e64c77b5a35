-- What a put does to the entries and their size.
use Rattle.std.proofs.Common.{◌≡◌, ℕ, ◌+◌, ◌≤◌, Bool, true, false, List, [], ◌∷◌, ◌++◌, length, filter, get_or, set, insert, Ordering, Less, Equal, Greater, nat_cmp, is_lt, is_gt, cond, refl, sym, ap, ◌∙◌, take-append-drop, true≢false, arith}
use Rattle.std.proofs.lemmas.Cmp.{nat_list_cmp_total}
use Rattle.std.proofs.lemmas.List.{take-set, drop-set}
use Rattle.std.proofs.lemmas.List.Sums.{sum_by-insert, sum_by-set}
use Rattle.std.specs.Cmp.Lexicographic.{slice_cmp}
use Rattle.std.specs.List.{AllByRecursion}
use Rattle.std.specs.Ordering.{ordering_reverse}
use Rattle.wm_collections.proofs.Lists.{All-append, All-filter, All-map, All-passing, All-unmap, All-weaker}
use Rattle.wm_collections.specs.Lists.{AscendByBytes}
use Rattle.wm_data.specs.Entries.{is_after, is_before, with_entry, IsBuilding, IsFoundAt, IsMissingAt}
use Rattle.wm_data.specs.Size.{entry_size, size_of}
use Rattle.wm_data.specs.declared.data.DataEntry.{DataEntry}
use Rattle.wm_data.proofs.Places.{keys, AllAfter, AllBefore}

-- ---- keys that ascend

less : (o : Ordering) → is_lt o ≡ true → o ≡ Less
less Less e = refl
less Equal e = absurd (true≢false (sym e))
less Greater e = absurd (true≢false (sym e))

greater : (o : Ordering) → is_gt o ≡ true → o ≡ Greater
greater Less e = absurd (true≢false (sym e))
greater Equal e = absurd (true≢false (sym e))
greater Greater e = refl

all_before : (key : List ℕ) (entries : List DataEntry) → AllBefore key (filter (is_before key) entries)
all_before key entries = All-weaker (filter (is_before key) entries) (λ entry e. less _ e) (All-passing (is_before key) entries)

all_after : (key : List ℕ) (entries : List DataEntry) → AllAfter key (filter (is_after key) entries)
all_after key entries = All-weaker (filter (is_after key) entries) (λ entry e. greater _ e) (All-passing (is_after key) entries)

-- the first key is before each later one
abbrev IsFirst : DataEntry → List DataEntry → Type 0
IsFirst first entries = AllByRecursion (λ later. slice_cmp nat_cmp first.key later ≡ Less) (keys entries)

ascend_cond : (b : Bool) (first : DataEntry) (entries : List DataEntry) → IsFirst first entries → AscendByBytes (keys entries)
    → AscendByBytes (keys (cond b (first ∷ entries) entries))
ascend_cond true first entries h up = (h, up)
ascend_cond false first entries h up = up

is_first_filter : (p : DataEntry → Bool) (first : DataEntry) (entries : List DataEntry) → IsFirst first entries → IsFirst first (filter p entries)
is_first_filter p first entries h =
    All-map _ (λ entry. entry.key) (filter p entries) (λ x is. is) (All-filter p entries (λ entry e is. is) (All-unmap _ (λ entry. entry.key) entries h))

ascend_filter : (p : DataEntry → Bool) (entries : List DataEntry) → AscendByBytes (keys entries) → AscendByBytes (keys (filter p entries))
ascend_filter p [] up = tt
ascend_filter p (entry ∷ entries) up = ascend_cond (p entry) entry (filter p entries) (is_first_filter p entry entries up.0) (ascend_filter p entries up.1)

after_is_first : (entry : DataEntry) (back : List DataEntry) → AllAfter entry.key back → IsFirst entry back
after_is_first entry back after =
    All-map _ (λ later. later.key) back (λ x is. is)
    (All-weaker back (λ later e. nat_list_cmp_total.antisymm entry.key later.key ∙ ap ordering_reverse e) after)

ascend_between : (entry : DataEntry) (front back : List DataEntry) → AscendByBytes (keys front) → AllBefore entry.key front → AscendByBytes (keys back)
    → AllAfter entry.key back → AscendByBytes (keys (front ++ entry ∷ back))
ascend_between entry [] back up before up_back after = (after_is_first entry back after, up_back)
ascend_between entry (first ∷ front) back up before up_back after = (
  All-map _ (λ later. later.key) (front ++ entry ∷ back) (λ x is. is) (All-append _ front (entry ∷ back) (All-unmap _ (λ later. later.key) front up.0) (
    before.0,
    All-weaker back (λ later e. nat_list_cmp_total.trans first.key entry.key later.key before.0
        (nat_list_cmp_total.antisymm entry.key later.key ∙ ap ordering_reverse e)) after,
  )),
  ascend_between entry front back up.1 before.1 up_back after,
)

pub ascend_with_entry : (entry : DataEntry) (entries : List DataEntry) → AscendByBytes (keys entries) → AscendByBytes (keys (with_entry entry entries))
ascend_with_entry entry entries up =
    ascend_between entry (filter (is_before entry.key) entries) (filter (is_after entry.key) entries) (ascend_filter (is_before entry.key) entries up)
    (all_before entry.key entries) (ascend_filter (is_after entry.key) entries up) (all_after entry.key entries)

-- what holds of an entry and of each of the others holds of them all after a put
pub all_with_entry : (P : DataEntry → Type 0) (entry : DataEntry) (entries : List DataEntry) → P entry → AllByRecursion P entries
    → AllByRecursion P (with_entry entry entries)
all_with_entry P entry entries h all =
    All-append _ (filter (is_before entry.key) entries) (entry ∷ filter (is_after entry.key) entries)
    (All-filter (is_before entry.key) entries (λ entry e is. is) all) (h, All-filter (is_after entry.key) entries (λ entry e is. is) all)

-- ---- what the code leaves

pub with_entry-set : (entry : DataEntry) (entries : List DataEntry) (index : ℕ) → IsFoundAt entry.key entries index
    → set entries index entry ≡ with_entry entry entries
with_entry-set entry entries index found =
    rw (← found.before, ← found.after)
    (sym (take-append-drop index (set entries index entry)) ∙ rw (take-set entries index entry, drop-set entries index entry found.within) refl)

pub with_entry-insert : (entry : DataEntry) (entries : List DataEntry) (index : ℕ) → IsMissingAt entry.key entries index
    → insert entries index entry ≡ with_entry entry entries
with_entry-insert entry entries index missing = rw (← missing.before, ← missing.after) refl

-- the size after a put where no entry has the key
pub size_of-insert : (entry : DataEntry) (entries : List DataEntry) (index : ℕ) → IsMissingAt entry.key entries index
    → size_of (with_entry entry entries) ≡ size_of entries + entry_size entry
size_of-insert entry entries index missing = rw (← with_entry-insert entry entries index missing) (omega (arith, sum_by-insert entry_size entries index entry))

-- and where one has it
pub size_of-set : (entry : DataEntry) (entries : List DataEntry) (index : ℕ) (d : DataEntry) → IsFoundAt entry.key entries index
    → size_of (with_entry entry entries) + entry_size (get_or entries index d) ≡ size_of entries + entry_size entry
size_of-set entry entries index d found =
    rw (← with_entry-set entry entries index found) (omega (arith, sum_by-set entry_size entries index entry d found.within))

-- ---- what a builder keeps

pub IsBuilding-with_entry : (entry : DataEntry) (entries : List DataEntry) (size now : ℕ) → IsBuilding entries size → 1 ≤ length entry.key
    → now ≡ size_of (with_entry entry entries) → IsBuilding (with_entry entry entries) now
IsBuilding-with_entry entry entries size now building named sized = record {
  ascending = ascend_with_entry entry entries building.ascending;
  named = all_with_entry (λ e. 1 ≤ length e.key) entry entries named building.named;
  sized = sized;
}
