-- What inputs become is in its type.
use Rattle.std.proofs.Common.{◌≡◌, List, [], ◌∷◌, find, fold, Option, None, Some, FitsSigned, refl}
use Rattle.std.specs.Int.{w8, w32, w64}
use Rattle.std.specs.List.{AllByRecursion}
use Rattle.wm_collections.proofs.Lists.{All-append, All-find}
use Rattle.wm_data.proofs.Puts.{all_with_entry}
use Rattle.wm_data.specs.Entries.{is_at}
use Rattle.wm_data.specs.InType.{AreInType, IsInType}
use Rattle.wm_data.specs.declared.data.DataEntry.{DataEntry}
use Rattle.wm_data.specs.declared.merger.Merger.{Merger}
use Rattle.wm_data.specs.declared.merger.Merger.TheVariants as merger
use Rattle.wm_data.specs.declared.value.Value.{Value}
use Rattle.wm_data.specs.declared.value.Value.TheVariants as value
use Rattle.wm_merge.specs.Elements.{array_of, bytes_of, element_type, ints_of, longs_of}
use Rattle.wm_merge.specs.Growing.{appended, first_value, grown_beside, grown_with, next_value, Grown}
use Rattle.wm_merge.specs.declared.element.ElementType.{ElementType}
use Rattle.wm_merge.specs.declared.element.ElementType.TheVariants as kind

-- ---- the elements of a value

bytes_in_type : (v : Value) → IsInType v → AllByRecursion (FitsSigned w8) (bytes_of v)
bytes_in_type (value.Byte n) is = (is, tt)
bytes_in_type (value.Bytes ns) is = is
bytes_in_type _ is = tt

ints_in_type : (v : Value) → IsInType v → AllByRecursion (FitsSigned w32) (ints_of v)
ints_in_type (value.Int n) is = (is, tt)
ints_in_type (value.Ints ns) is = is
ints_in_type _ is = tt

longs_in_type : (v : Value) → IsInType v → AllByRecursion (FitsSigned w64) (longs_of v)
longs_in_type (value.Long n) is = (is, tt)
longs_in_type (value.Longs ns) is = is
longs_in_type _ is = tt

appended-in_type : (v more : Value) → IsInType v → IsInType more → IsInType (appended v more)
appended-in_type (value.Bytes ns) more is next = All-append (FitsSigned w8) ns (bytes_of more) is (bytes_in_type more next)
appended-in_type (value.Ints ns) more is next = All-append (FitsSigned w32) ns (ints_of more) is (ints_in_type more next)
appended-in_type (value.Longs ns) more is next = All-append (FitsSigned w64) ns (longs_of more) is (longs_in_type more next)
appended-in_type _ more is next = is

empty-in_type : (type : ElementType) → IsInType (array_of type [])
empty-in_type kind.Bool = tt
empty-in_type kind.Byte = tt
empty-in_type kind.Int = tt
empty-in_type kind.Long = tt
empty-in_type kind.Text = tt

-- ---- what has grown

first-in_type : (how : Merger) (v : Value) → IsInType v → IsInType (first_value how v)
first-in_type merger.Overwriting v is = is
first-in_type merger.ArrayCreating v is = appended-in_type (array_of (element_type v) []) v (empty-in_type (element_type v)) is

next-in_type : (how : Merger) (v next : Value) → IsInType v → IsInType next → IsInType (next_value how v next)
next-in_type merger.Overwriting v next is more = more
next-in_type merger.ArrayCreating v next is more = appended-in_type v next is more

beside-in_type : (how : Merger) (grown : Grown) (entry : DataEntry) (there : Option DataEntry) → find (is_at entry.key) grown.entries ≡ there
    → IsInType entry.value → AreInType grown.entries → AreInType (grown_beside how grown entry there).entries
beside-in_type how grown entry None found is all =
    all_with_entry (λ e. IsInType e.value) _ grown.entries (first-in_type how entry.value is) all
beside-in_type how grown entry (Some there) found is all =
    let there_is = All-find (λ (e : DataEntry). IsInType e.value) (is_at entry.key) grown.entries there found all in
    all_with_entry (λ e. IsInType e.value) _ grown.entries (next-in_type how there.value entry.value there_is is) all

pub grown-in_type : (how : Merger) (grown : Grown) (entries : List DataEntry) → AreInType entries → AreInType grown.entries
    → AreInType (fold (grown_with how) grown entries).entries
grown-in_type how grown [] are all = all
grown-in_type how grown (entry ∷ entries) are all =
    grown-in_type how (grown_with how grown entry) entries are.1
    (beside-in_type how grown entry (find (is_at entry.key) grown.entries) refl are.0 all)
