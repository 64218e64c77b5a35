-- The entries of several inputs, by their keys. After `androidx.work.InputMerger`, which is given the inputs as a list.
use Rattle.std.specs.Prelude.{ℕ, List, [], ◌∷◌, ◌++◌, filter, filter_map, flat_map, fold, map, Option, option_map}
use Rattle.std.specs.Cmp.Lexicographic.{slice_cmp}
use Rattle.std.specs.Ordering.{nat_cmp, is_gt, is_lt}
use Rattle.wm_data.specs.Entries.{is_at}
use Rattle.wm_data.specs.declared.data.DataEntry.{DataEntry}
use Rattle.wm_data.specs.declared.value.Value.{Value}

-- the entries of all inputs, in input order
abbrev pub all_entries : List (List DataEntry) → List DataEntry
all_entries inputs = flat_map (λ input. input) inputs

-- ascending keys with a key among them, once
abbrev pub with_key : List ℕ → List (List ℕ) → List (List ℕ)
with_key key keys = filter (λ k. is_lt (slice_cmp nat_cmp k key)) keys ++ key ∷ filter (λ k. is_gt (slice_cmp nat_cmp k key)) keys

-- the keys of entries, in ascending order and each once
abbrev pub keys_of : List DataEntry → List (List ℕ)
keys_of entries = fold (λ keys entry. with_key entry.key keys) [] entries

-- the values under a key, in input order
abbrev pub values_of : List ℕ → List DataEntry → List Value
values_of key entries = map (λ entry. entry.value) (filter (is_at key) entries)

-- the entry of a key, where there is a value for it
abbrev pub entry_of : List ℕ → Option Value → Option DataEntry
entry_of key value = option_map (λ v. record { key = key; value = v }) value

-- each key with what a rule makes of its values
abbrev pub by_key : (List Value → Option Value) → List DataEntry → List DataEntry
by_key rule entries = filter_map (λ key. entry_of key (rule (values_of key entries))) (keys_of entries)
