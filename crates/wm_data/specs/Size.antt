-- The size of Data in bytes, and which entries are Data. After the guide's page "Define work requests", where Data is small; what counts as
-- how many bytes is this project's own choice.
use Rattle.std.specs.Prelude.{ℕ, ◌+◌, ◌*◌, ◌≤◌, List, length, map}
use Rattle.std.specs.List.{AllByRecursion, sum_by}
use Rattle.wm_collections.specs.Lists.{AscendByBytes}
use Rattle.wm_data.specs.InType.{AreInType}
use Rattle.wm_data.specs.declared.data.DataEntry.{DataEntry}
use Rattle.wm_data.specs.declared.value.Value.{Value}
use Rattle.wm_data.specs.declared.value.Value.TheVariants as value

abbrev pub text_size : List ℕ → ℕ
text_size text = 4 + length text

-- the bytes of a value
abbrev pub payload : Value → ℕ
payload (value.Bool b) = 1
payload (value.Byte n) = 1
payload (value.Int n) = 4
payload (value.Long n) = 8
payload (value.Text text) = text_size text
payload (value.Bools bs) = 4 + length bs
payload (value.Bytes ns) = 4 + length ns
payload (value.Ints ns) = 4 + 4 * length ns
payload (value.Longs ns) = 4 + 8 * length ns
payload (value.Texts texts) = 4 + sum_by text_size texts

-- the bytes of a key and its value
abbrev pub entry_size : DataEntry → ℕ
entry_size entry = 2 + length entry.key + 1 + payload entry.value

abbrev pub size_of : List DataEntry → ℕ
size_of entries = 2 + sum_by entry_size entries

-- the keys ascend, and none is empty
pub record AreOrdered (entries : List DataEntry) : Type 0 where
  pub ascending : AscendByBytes (map (λ entry. entry.key) entries)
  pub named : AllByRecursion (λ entry. 1 ≤ length entry.key) entries

-- the entries are Data: their keys ascend and none is empty, each value is in its type, and they are within the size
pub record IsData (entries : List DataEntry) : Type 0 where
  pub ascending : AscendByBytes (map (λ entry. entry.key) entries)
  pub named : AllByRecursion (λ entry. 1 ≤ length entry.key) entries
  pub in_type : AreInType entries
  pub size : size_of entries ≤ 10240
