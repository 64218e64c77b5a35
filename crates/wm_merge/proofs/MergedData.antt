-- What inputs that are Data become is Data.
use Rattle.std.proofs.Common.{◌≡◌, ℕ, ◌≤◌, Bool, true, false, cond, List, [], ◌∷◌, length, find, fold, nat_le, Option, None, Some, Ok, Err, refl, sym, ◌∙◌, subst}
use Rattle.std.proofs.lemmas.Bool.{leb-true}
use Rattle.std.specs.List.{AllByRecursion}
use Rattle.wm_collections.proofs.Lists.{All-append, All-weaker}
use Rattle.wm_data.proofs.Puts.{all_with_entry, ascend_with_entry}
use Rattle.wm_data.specs.Entries.{is_at, with_entry}
use Rattle.wm_data.specs.InType.{AreInType, IsInType}
use Rattle.wm_data.specs.Size.{size_of, AreOrdered, IsData}
use Rattle.wm_data.specs.declared.data.DataEntry.{DataEntry}
use Rattle.wm_data.specs.declared.merger.Merger.{Merger}
use Rattle.wm_data.specs.declared.value.Value.{Value}
use Rattle.wm_merge.proofs.MergedTypes.{grown-in_type}
use Rattle.wm_merge.proofs.Merges.{merged-grown}
use Rattle.wm_merge.specs.Growing.{grown_beside, grown_with, nothing_grown, Grown}
use Rattle.wm_merge.specs.Inputs.{all_entries}
use Rattle.wm_merge.specs.Merged.{answer_of, merged}
use Rattle.wm_merge.specs.declared.fault.MergeFault.{MergeFault}
use Rattle.wm_merge.specs.declared.fault.MergeFault.TheVariants.{TooLarge}

-- ---- what has grown is in order

abbrev IsNamed : DataEntry → Type 0
IsNamed entry = 1 ≤ length entry.key

with_entry-ordered : (key : List ℕ) (value : Value) (entries : List DataEntry) → 1 ≤ length key → AreOrdered entries
    → AreOrdered (with_entry (record { key = key; value = value }) entries)
with_entry-ordered key value entries named ordered = record {
  ascending = ascend_with_entry (record { key = key; value = value }) entries ordered.ascending;
  named = all_with_entry IsNamed (record { key = key; value = value }) entries named ordered.named;
}

beside-ordered : (how : Merger) (grown : Grown) (entry : DataEntry) (there : Option DataEntry) → IsNamed entry → AreOrdered grown.entries
    → AreOrdered (grown_beside how grown entry there).entries
beside-ordered how grown entry None named ordered = with_entry-ordered entry.key _ grown.entries named ordered
beside-ordered how grown entry (Some there) named ordered = with_entry-ordered entry.key _ grown.entries named ordered

fold-ordered : (how : Merger) (grown : Grown) (entries : List DataEntry) → AllByRecursion IsNamed entries → AreOrdered grown.entries
    → AreOrdered (fold (grown_with how) grown entries).entries
fold-ordered how grown [] named ordered = ordered
fold-ordered how grown (entry ∷ entries) named ordered =
    fold-ordered how (grown_with how grown entry) entries named.1 (beside-ordered how grown entry (find (is_at entry.key) grown.entries) named.0 ordered)

-- ---- all entries

-- what holds of each entry of each input holds of each of all
all_entries-each : (P : DataEntry → Type 0) (inputs : List (List DataEntry)) → AllByRecursion (AllByRecursion P) inputs → AllByRecursion P (all_entries inputs)
all_entries-each P [] all = tt
all_entries-each P (input ∷ inputs) all = All-append P input (all_entries inputs) all.0 (all_entries-each P inputs all.1)

-- ---- the answer

sized-by : (fits : Bool) (fault : MergeFault) (entries built : List DataEntry) → (fits ≡ true → size_of entries ≤ 10240) → AreOrdered entries
    → AreInType entries → cond fits (Ok entries) (Err fault) ≡ Ok built → IsData built
sized-by true fault entries built within ordered in_type is =
    let same : entries ≡ built = cc in
    subst IsData same (record { ascending = ordered.ascending; named = ordered.named; in_type = in_type; size = within refl })
sized-by false fault entries built within ordered in_type is = absurd (cc)

answer_of-data : (conflict : Option (List ℕ)) (entries built : List DataEntry) → AreOrdered entries → AreInType entries
    → answer_of conflict entries ≡ Ok built → IsData built
answer_of-data (Some key) entries built ordered in_type is = absurd (cc)
answer_of-data None entries built ordered in_type is =
    sized-by (nat_le (size_of entries) 10240) (TooLarge (size_of entries)) entries built (leb-true (size_of entries) 10240) ordered in_type is

pub merged-data : (how : Merger) (inputs : List (List DataEntry)) (built : List DataEntry) → merged how inputs ≡ Ok built → AllByRecursion IsData inputs
    → IsData built
merged-data how inputs built is all =
    let grown = fold (grown_with how) nothing_grown (all_entries inputs) in
    let named = all_entries-each IsNamed inputs (All-weaker inputs (λ input data_is. data_is.named) all) in
    let in_type = all_entries-each (λ entry. IsInType entry.value) inputs (All-weaker inputs (λ input data_is. data_is.in_type) all) in
    answer_of-data grown.conflict grown.entries built
    (fold-ordered how nothing_grown (all_entries inputs) named (record { ascending = tt; named = tt }))
    (grown-in_type how nothing_grown (all_entries inputs) in_type tt)
    (sym (merged-grown how inputs grown refl) ∙ is)
