-- What has grown of all entries is what the inputs become, and the code leaves what has grown.
use Rattle.std.proofs.Common.{◌≡◌, ℕ, zero, suc, ◌<◌, ◌≤◌, Bool, true, false, cond, Option, None, is_some, unwrap_or, true≢false, List, [], ◌∷◌, ◌++◌, append_assoc, append-nil, length, filter_map, find, fold, get_or, set, insert, Some, slice_get, refl, sym, ap, ◌∙◌, subst, arith}
use Rattle.wm_collections.proofs.Lists.{All-any, filter_map-same}
use Rattle.wm_data.specs.Entries.{is_at, with_entry, IsFoundAt, IsMissingAt}
use Rattle.wm_data.specs.Size.{AreOrdered}
use Rattle.wm_data.specs.declared.data.DataEntry.{DataEntry}
use Rattle.wm_data.specs.declared.merger.Merger.{Merger}
use Rattle.wm_data.specs.declared.merger.Merger.TheVariants as merger
use Rattle.wm_data.specs.declared.value.Value.{Value}
use Rattle.wm_data.proofs.Places.{keys}
use Rattle.wm_data.proofs.Puts.{all_with_entry, ascend_with_entry, with_entry-insert, with_entry-set}
use Rattle.wm_merge.specs.Growing.{differs, grown_beside, grown_with, next_value, noted, nothing_grown, Grown}
use Rattle.wm_merge.specs.Inputs.{all_entries, by_key, entry_of, keys_of, values_of}
use Rattle.wm_merge.specs.Merged.{answer_of, merged}
use Rattle.wm_merge.proofs.KeyOrder.{found_by_keys, key_at, keys-set, named-set}
use Rattle.wm_merge.proofs.Steps.{first_conflict, nothing, step, IsMerging}
use Rattle.wm_merge.proofs.Values.{merged_value}

-- ---- all entries

steps : (how : Merger) (done rest : List DataEntry) (grown : Grown) → IsMerging how done grown → IsMerging how (done ++ rest) (fold (grown_with how) grown rest)
steps how done [] grown is = rw (append-nil done) is
steps how done (entry ∷ rest) grown is =
    subst (λ all. IsMerging how all (fold (grown_with how) (grown_with how grown entry) rest)) (append_assoc done (entry ∷ []) rest)
    (steps how (done ++ entry ∷ []) rest (grown_with how grown entry) (step how done grown entry is))

entries_are : (how : Merger) (done : List DataEntry) (grown : Grown) → IsMerging how done grown → grown.entries ≡ by_key (merged_value how) done
entries_are how done grown is =
    sym (found_by_keys grown.entries is.ascending)
    ∙ filter_map-same (λ key. find (is_at key) grown.entries) (λ key. entry_of key (merged_value how (values_of key done))) (keys grown.entries)
    (All-any (keys grown.entries) is.found) ∙ ap (filter_map (λ key. entry_of key (merged_value how (values_of key done)))) is.keys_are

find_never : (keys : List (List ℕ)) → find (λ key. false) keys ≡ None
find_never [] = refl
find_never (key ∷ keys) = find_never keys

merged-by_values : (how : Merger) (inputs : List (List DataEntry))
    → merged how inputs ≡ answer_of (first_conflict how (all_entries inputs)) (by_key (merged_value how) (all_entries inputs))
merged-by_values merger.Overwriting inputs = rw (find_never (keys_of (all_entries inputs))) refl
merged-by_values merger.ArrayCreating inputs = refl

pub merged-grown : (how : Merger) (inputs : List (List DataEntry)) (grown : Grown) → grown ≡ fold (grown_with how) nothing_grown (all_entries inputs)
    → merged how inputs ≡ answer_of grown.conflict grown.entries
merged-grown how inputs grown e =
    let all = all_entries inputs in
    let is : IsMerging how all grown = rw e (steps how [] all nothing_grown (nothing how)) in
    merged-by_values how inputs
    ∙ sym (ap (λ key. answer_of key grown.entries) is.noted ∙ ap (answer_of (first_conflict how all)) (entries_are how all grown is))

-- ---- what the code leaves

passes_cond : (p : DataEntry → Bool) (y x : DataEntry) (rest : Option DataEntry) (b : Bool) → p y ≡ b → cond b (Some y) rest ≡ Some x
    → (rest ≡ Some x → p x ≡ true) → p x ≡ true
passes_cond p y x rest true e is h = subst (λ z. p z ≡ true) (ap (λ o. unwrap_or o y) is) e
passes_cond p y x rest false e is h = h is

find_passes : (p : DataEntry → Bool) (xs : List DataEntry) (x : DataEntry) → find p xs ≡ Some x → p x ≡ true
find_passes p [] x is = absurd (true≢false (sym (ap is_some is)))
find_passes p (y ∷ ys) x is = passes_cond p y x (find p ys) (p y) refl is (find_passes p ys x)

abbrev entry_with : List ℕ → Value → DataEntry
entry_with key value = record { key = key; value = value }

abbrev grown_of : Option (List ℕ) → List DataEntry → Grown
grown_of conflict entries = record { entries = entries; conflict = conflict }

same_entry : (a b : DataEntry) → a.key ≡ b.key → a.value ≡ b.value → a ≡ b
same_entry a b key value = ap (λ k. entry_with k a.value) key ∙ ap (entry_with b.key) value

get-here : (xs : List DataEntry) (i : ℕ) (d : DataEntry) → i < length xs → slice_get xs i ≡ Some (get_or xs i d)
get-here [] i d h = absurd (omega arith)
get-here (x ∷ xs) zero d h = refl
get-here (x ∷ xs) (suc i) d h = get-here xs i d (omega arith)

pub grown_with-set : (how : Merger) (grown : Grown) (entry read written now : DataEntry) (index : ℕ) (conflicts : Bool) (least : Option (List ℕ))
    → IsFoundAt entry.key grown.entries index → read ≡ get_or grown.entries index read → written ≡ get_or grown.entries index written
    → conflicts ≡ differs how read.value entry.value → least ≡ noted conflicts entry.key grown.conflict
    → now.key ≡ written.key → now.value ≡ next_value how written.value entry.value → grown_of least (set grown.entries index now) ≡ grown_with how grown entry
grown_with-set how grown entry read written now index conflicts least found reads writes conflicts_are least_is key value =
    let at_read : find (is_at entry.key) grown.entries ≡ Some read = sym found.here ∙ get-here grown.entries index read found.within ∙ ap Some (sym reads) in
    let at_written : find (is_at entry.key) grown.entries ≡ Some written =
    sym found.here ∙ get-here grown.entries index written found.within ∙ ap Some (sym writes) in
    let one : written ≡ read = ap (λ o. unwrap_or o read) (sym at_written ∙ at_read) in
    let next : DataEntry = entry_with entry.key (next_value how read.value entry.value) in
    let noted_is : least ≡ noted (differs how read.value entry.value) entry.key grown.conflict =
    least_is ∙ ap (λ b. noted b entry.key grown.conflict) conflicts_are in
    let same : now ≡ next =
    same_entry now next (key ∙ key_at entry.key written (find_passes (is_at entry.key) grown.entries written at_written))
    (value ∙ ap (λ e. next_value how e.value entry.value) one) in
    ap (λ e. grown_of least (set grown.entries index e)) same ∙ ap (grown_of least) (with_entry-set next grown.entries index found)
    ∙ ap (λ l. grown_of l (with_entry next grown.entries)) noted_is ∙ sym (ap (grown_beside how grown entry) at_read)

pub AreOrdered-set : (entries : List DataEntry) (index : ℕ) (entry d : DataEntry) → entry.key ≡ (get_or entries index d).key → AreOrdered entries
    → AreOrdered (set entries index entry)
AreOrdered-set entries index entry d e ordered =
    record { ascending = rw (keys-set entries index entry d e) ordered.ascending; named = named-set entries index entry d e ordered.named }

pub AreOrdered-insert : (entries : List DataEntry) (index : ℕ) (key : List ℕ) (entry : DataEntry) → entry.key ≡ key → IsMissingAt key entries index
    → 1 ≤ length key → AreOrdered entries → AreOrdered (insert entries index entry)
AreOrdered-insert entries index key entry e missing named ordered =
    let at_entry = subst (λ k. IsMissingAt k entries index) (sym e) missing in
    rw (with_entry-insert entry entries index at_entry) record {
      ascending = ascend_with_entry entry entries ordered.ascending;
      named = all_with_entry (λ e. 1 ≤ length e.key) entry entries (subst (λ k. 1 ≤ length k) (sym e) named) ordered.named;
    }
