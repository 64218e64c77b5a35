-- What is read out of JSON is Data.
use Rattle.std.proofs.Common.{◌≡◌, ℕ, ◌≤◌, ◌==◌, Bool, true, false, cond, List, [], ◌∷◌, length, filter_map, find, is_none, nat_le, Option, Some, None, Ok, Err, IfOk, refl, arith}
use Rattle.std.proofs.lemmas.Bool.{leb-true}
use Rattle.std.proofs.lemmas.Bool.Decides.{nat_tests}
use Rattle.std.specs.List.{AllByRecursion, list_any}
use Rattle.serde_json.specs.Data as json
use Rattle.serde_json.specs.Find.{as_object}
use Rattle.wm_collections.proofs.Options.{each_read, map_any, one_more}
use Rattle.wm_collections.specs.Lists.{AscendByBytes}
use Rattle.wm_data.specs.DataRead.{and_built, entries_of, member_list, put_all, read_data, read_entry, read_object, read_value, unless_bad}
use Rattle.wm_data.specs.Entries.{with_entry}
use Rattle.wm_data.specs.InType.{AreInType, IsInType}
use Rattle.wm_data.specs.Size.{IsData, size_of}
use Rattle.wm_data.specs.declared.data.DataEntry.{DataEntry}
use Rattle.wm_data.specs.declared.fault.DataFault.{DataFault}
use Rattle.wm_data.proofs.MemberLists.{neither}
use Rattle.wm_data.proofs.Places.{keys}
use Rattle.wm_data.proofs.Puts.{all_with_entry, ascend_with_entry}
use Rattle.wm_data.proofs.ReadTypes.{entry_in_type}

-- no key is empty
abbrev AreNamed : List DataEntry → Type 0
AreNamed entries = AllByRecursion (λ entry. 1 ≤ length entry.key) entries

-- entries that were put: their keys ascend and none is empty, and each value is in its type
record ArePut (entries : List DataEntry) : Type 0 where
  ascending : AscendByBytes (keys entries)
  named : AreNamed entries
  in_type : AreInType entries

ArePut-put_all : (entries more : List DataEntry) → ArePut entries → AreNamed more → AreInType more → ArePut (put_all entries more)
ArePut-put_all entries [] put named in_type = put
ArePut-put_all entries (entry ∷ more) put named in_type =
    ArePut-put_all (with_entry entry entries) more (record {
      ascending = ascend_with_entry entry entries put.ascending;
      named = all_with_entry (λ e. 1 ≤ length e.key) entry entries named.0 put.named;
      in_type = all_with_entry (λ e. IsInType e.value) entry entries in_type.0 put.in_type;
    }) named.1 in_type.1

-- ---- members none of whose keys is empty

AreNamed-read : (ms : List (List ℕ × json.Data)) → list_any (λ m. length m.0 == 0) ms ≡ false → AreNamed (filter_map read_entry ms)
AreNamed-read [] e = tt
AreNamed-read (m ∷ ms) e =
    let apart = neither (length m.0 == 0) (list_any (λ m. length m.0 == 0) ms) e in
    let first = apart.0 in
    let named : 1 ≤ length m.0 = grind (arith, nat_tests) in
    one_more (λ (entry : DataEntry). 1 ≤ length entry.key) (read_entry m) (filter_map read_entry ms)
    (map_any (λ (entry : DataEntry). 1 ≤ length entry.key) _ (read_value m.1) (λ v. named)) (AreNamed-read ms apart.1)

-- ---- what is answered

IsData-built : (entries : List DataEntry) → ArePut entries → (b : Bool) → nat_le (size_of entries) 10240 ≡ b
    → IfOk (cond b (Ok entries) (Err (DataFault.TooLarge (size_of entries)))) IsData
IsData-built entries put true within = record {
  ascending = put.ascending;
  named = put.named;
  in_type = put.in_type;
  size = leb-true (size_of entries) 10240 within;
}
IsData-built entries put false within = tt

IsData-unless_bad : (o : Option (List ℕ × json.Data)) (entries : List DataEntry) → ArePut entries → IfOk (and_built (unless_bad o entries)) IsData
IsData-unless_bad None entries put = IsData-built entries put (nat_le (size_of entries) 10240) refl
IsData-unless_bad (Some m) entries put = tt

IsData-members : (ms : List (List ℕ × json.Data)) (b : Bool) → list_any (λ m. length m.0 == 0) ms ≡ b
    → IfOk (cond b (Err DataFault.EmptyKey) (and_built (entries_of ms))) IsData
IsData-members ms true empty = tt
IsData-members ms false named =
    IsData-unless_bad (find (λ m. is_none (read_entry m)) ms) (put_all [] (filter_map read_entry ms))
    (ArePut-put_all [] (filter_map read_entry ms) (record { ascending = tt; named = tt; in_type = tt }) (AreNamed-read ms named)
    (each_read (λ (entry : DataEntry). IsInType entry.value) read_entry entry_in_type ms))

IsData-object : (o : Option json.Members) → IfOk (read_object o) IsData
IsData-object None = tt
IsData-object (Some ms) = IsData-members (member_list ms) (list_any (λ m. length m.0 == 0) (member_list ms)) refl

pub IsData-read_data : (d : json.Data) → IfOk (read_data d) IsData
IsData-read_data d = IsData-object (as_object d)
