-- What is written as JSON is read as the same.
use Rattle.std.proofs.Common.{◌≡◌, ℕ, ℤ, pos, negsuc, ◌^◌, ◌<◌, ◌≤◌, ◌==◌, true, false, List, [], ◌∷◌, ◌++◌, append_assoc, append-nil, length, Less, sym, ap, ◌∙◌, map, filter_map, find, is_none, is_some, Option, Some, None, Ok, FitsSigned, w8, w32, w64, refl, lt-ltb, le-leb, ne_eqb, arith}
use Rattle.std.specs.Cmp.Lexicographic.{slice_cmp}
use Rattle.std.specs.List.{AllByRecursion, list_all, list_any}
use Rattle.std.specs.Ordering.{is_lt, is_gt, nat_cmp}
use Rattle.wm_collections.proofs.Lists.{All-any, All-weaker, filter-each, filter-none}
use Rattle.wm_collections.specs.Lists.{AscendByBytes}
use Rattle.serde_json.specs.Data as json
use Rattle.serde_json.specs.Find.{as_bool, as_str}
use Rattle.wm_data.specs.DataJson.{data_json, entries_json, list_of, value_json, whole}
use Rattle.wm_data.specs.DataRead.{list_in, member_list, put_all, read_data, read_entry, read_value, whole_of}
use Rattle.wm_data.specs.InType.{AreInType, IsInType}
use Rattle.wm_data.specs.Entries.{is_after, is_before, with_entry}
use Rattle.wm_data.specs.Size.{IsData}
use Rattle.wm_data.specs.declared.data.DataEntry.{DataEntry}
use Rattle.wm_data.specs.declared.value.Value.{Value}
use Rattle.wm_data.specs.declared.value.Value.TheVariants as value
use Rattle.wm_data.proofs.ItemLists.{item_list-items_of}
use Rattle.wm_data.proofs.Places.{keys, AllBefore}

-- ---- numbers

whole_of-long : (bits n : ℕ) → n < 2 ^ bits → n < 2 ^ 63 → whole_of bits (whole (pos n)) ≡ Some (pos n)
whole_of-long bits n h long = rw (lt-ltb n (2 ^ 63) long, lt-ltb n (2 ^ bits) h) refl

whole_of-negsuc : (bits n : ℕ) → n < 2 ^ bits → whole_of bits (whole (negsuc n)) ≡ Some (negsuc n)
whole_of-negsuc bits n h = rw (lt-ltb n (2 ^ bits) h) refl

byte_of-whole : (n : ℤ) → FitsSigned w8 n → whole_of 7 (whole n) ≡ Some n
byte_of-whole (pos n) h = whole_of-long 7 n h.sfits (omega (arith, h.sfits))
byte_of-whole (negsuc n) h = whole_of-negsuc 7 n h.sfits

int_of-whole : (n : ℤ) → FitsSigned w32 n → whole_of 31 (whole n) ≡ Some n
int_of-whole (pos n) h = whole_of-long 31 n h.sfits (omega (arith, h.sfits))
int_of-whole (negsuc n) h = whole_of-negsuc 31 n h.sfits

long_of-whole : (n : ℤ) → FitsSigned w64 n → whole_of 63 (whole n) ≡ Some n
long_of-whole (pos n) h = whole_of-long 63 n h.sfits h.sfits
long_of-whole (negsuc n) h = whole_of-negsuc 63 n h.sfits

-- ---- lists

-- each item is read as what it was written for
list_all-written : {T : Type 0} (form : T → json.Data) (reading : json.Data → Option T) (xs : List T) → AllByRecursion (λ x. reading (form x) ≡ Some x) xs
    → (list_all (λ item. is_some (reading item)) (map form xs) ≡ true) × (filter_map reading (map form xs) ≡ xs)
list_all-written form reading [] h = (refl, refl)
list_all-written form reading (x ∷ xs) h =
    let rest = list_all-written form reading xs h.1 in
    (rw (h.0, rest.0) refl, rw (h.0, rest.1) refl)

list_in-list_of : {T : Type 0} (form : T → json.Data) (reading : json.Data → Option T) (xs : List T) → AllByRecursion (λ x. reading (form x) ≡ Some x) xs
    → list_in reading (list_of form xs) ≡ Some xs
list_in-list_of form reading xs h =
    let whole_list = list_all-written form reading xs h in
    rw (item_list-items_of (map form xs), whole_list.0, whole_list.1) refl

-- ---- values

read_value-value_json : (v : Value) → IsInType v → read_value (value_json v) ≡ Some v
read_value-value_json (value.Bool b) h = refl
read_value-value_json (value.Byte n) h = rw (byte_of-whole n h) refl
read_value-value_json (value.Int n) h = rw (int_of-whole n h) refl
read_value-value_json (value.Long n) h = rw (long_of-whole n h) refl
read_value-value_json (value.Text text) h = refl
read_value-value_json (value.Bools bs) h = rw (list_in-list_of json.boolean as_bool bs (All-any bs (λ b. refl))) refl
read_value-value_json (value.Bytes ns) h = rw (list_in-list_of whole (whole_of 7) ns (All-weaker ns byte_of-whole h)) refl
read_value-value_json (value.Ints ns) h = rw (list_in-list_of whole (whole_of 31) ns (All-weaker ns int_of-whole h)) refl
read_value-value_json (value.Longs ns) h = rw (list_in-list_of whole (whole_of 63) ns (All-weaker ns long_of-whole h)) refl
read_value-value_json (value.Texts texts) h = rw (list_in-list_of json.string as_str texts (All-any texts (λ text. refl))) refl

-- ---- entries

read_entry-written : (entry : DataEntry) → IsInType entry.value → read_entry (entry.key, value_json entry.value) ≡ Some entry
read_entry-written entry h = rw (read_value-value_json entry.value h) refl

none_bad : (entries : List DataEntry) → AreInType entries → find (λ m. is_none (read_entry m)) (member_list (entries_json entries)) ≡ None
none_bad [] h = refl
none_bad (entry ∷ entries) h = rw (read_entry-written entry h.0) (none_bad entries h.1)

all_read : (entries : List DataEntry) → AreInType entries → filter_map read_entry (member_list (entries_json entries)) ≡ entries
all_read [] h = refl
all_read (entry ∷ entries) h = rw (read_entry-written entry h.0, all_read entries h.1) refl

-- an entry whose key is above the others goes last
with_entry-last : (entry : DataEntry) (entries : List DataEntry) → AllBefore entry.key entries → with_entry entry entries ≡ entries ++ entry ∷ []
with_entry-last entry entries before =
    rw (
      filter-each (is_before entry.key) entries (All-weaker entries (λ e less. ap is_lt less) before),
      filter-none (is_after entry.key) entries (All-weaker entries (λ e less. ap is_gt less) before),
    ) refl

first_before : (first : DataEntry) (done : List DataEntry) (entry : DataEntry) (more : List DataEntry)
    → AllByRecursion (λ later. slice_cmp nat_cmp first.key later ≡ Less) (keys (done ++ entry ∷ more)) → slice_cmp nat_cmp first.key entry.key ≡ Less
first_before first [] entry more h = h.0
first_before first (e ∷ done) entry more h = first_before first done entry more h.1

all_before : (done : List DataEntry) (entry : DataEntry) (more : List DataEntry) → AscendByBytes (keys (done ++ entry ∷ more)) → AllBefore entry.key done
all_before [] entry more up = tt
all_before (first ∷ done) entry more up = (first_before first done entry more up.0, all_before done entry more up.1)

-- entries that ascend stay in their order
put_all-ascending : (done more : List DataEntry) → AscendByBytes (keys (done ++ more)) → put_all done more ≡ done ++ more
put_all-ascending done [] up = sym (append-nil done)
put_all-ascending done (entry ∷ more) up =
    let whole = append_assoc done (entry ∷ []) more in
    rw (with_entry-last entry done (all_before done entry more up)) (put_all-ascending (done ++ entry ∷ []) more (rw whole up) ∙ whole)

no_empty_key : (entries : List DataEntry) → AllByRecursion (λ entry. 1 ≤ length entry.key) entries
    → list_any (λ m. length m.0 == 0) (member_list (entries_json entries)) ≡ false
no_empty_key [] h = refl
no_empty_key (entry ∷ entries) h = rw (ne_eqb (length entry.key) 0 (λ e. omega (arith, e, h.0)), no_empty_key entries h.1) refl

pub read_data-data_json : (entries : List DataEntry) → IsData entries → read_data (data_json entries) ≡ Ok entries
read_data-data_json entries is_data =
    rw (
      no_empty_key entries is_data.named,
      none_bad entries is_data.in_type,
      all_read entries is_data.in_type,
      put_all-ascending [] entries is_data.ascending,
    )
    (rw (le-leb _ 10240 is_data.size) refl)
