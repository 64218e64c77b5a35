-- The elements of values and their type. After `androidx.work.ArrayCreatingInputMerger`, where a value that isn't an array is an array of
-- itself.
use Rattle.std.specs.Prelude.{ℕ, ℤ, List, [], ◌∷◌, flat_map, Bool, true, false}
use Rattle.wm_data.specs.declared.value.Value.{Value}
use Rattle.wm_data.specs.declared.value.Value.TheVariants as value
use Rattle.wm_merge.specs.declared.element.ElementType.{ElementType}
use Rattle.wm_merge.specs.declared.element.ElementType.TheVariants as kind

-- the type of a value, or of the elements of its array
abbrev pub element_type : Value → ElementType
element_type (value.Bool b) = kind.Bool
element_type (value.Byte n) = kind.Byte
element_type (value.Int n) = kind.Int
element_type (value.Long n) = kind.Long
element_type (value.Text text) = kind.Text
element_type (value.Bools bs) = kind.Bool
element_type (value.Bytes ns) = kind.Byte
element_type (value.Ints ns) = kind.Int
element_type (value.Longs ns) = kind.Long
element_type (value.Texts texts) = kind.Text

abbrev pub is_same : ElementType → ElementType → Bool
is_same kind.Bool kind.Bool = true
is_same kind.Byte kind.Byte = true
is_same kind.Int kind.Int = true
is_same kind.Long kind.Long = true
is_same kind.Text kind.Text = true
is_same _ _ = false

-- the elements of each type: the value itself, or those of its array in order
abbrev pub bools_of : Value → List Bool
bools_of (value.Bool b) = b ∷ []
bools_of (value.Bools bs) = bs
bools_of _ = []

abbrev pub bytes_of : Value → List ℤ
bytes_of (value.Byte n) = n ∷ []
bytes_of (value.Bytes ns) = ns
bytes_of _ = []

abbrev pub ints_of : Value → List ℤ
ints_of (value.Int n) = n ∷ []
ints_of (value.Ints ns) = ns
ints_of _ = []

abbrev pub longs_of : Value → List ℤ
longs_of (value.Long n) = n ∷ []
longs_of (value.Longs ns) = ns
longs_of _ = []

abbrev pub texts_of : Value → List (List ℕ)
texts_of (value.Text text) = text ∷ []
texts_of (value.Texts texts) = texts
texts_of _ = []

-- the array of a type with the elements of values, in order
abbrev pub array_of : ElementType → List Value → Value
array_of kind.Bool values = value.Bools (flat_map bools_of values)
array_of kind.Byte values = value.Bytes (flat_map bytes_of values)
array_of kind.Int values = value.Ints (flat_map ints_of values)
array_of kind.Long values = value.Longs (flat_map longs_of values)
array_of kind.Text values = value.Texts (flat_map texts_of values)
