-- Which numbers the type of a value holds: those of Rust's i8, i32 and i64, as those of Java's byte, int and long.
use Rattle.std.specs.Prelude.{List, FitsSigned}
use Rattle.std.specs.Int.{w8, w32, w64}
use Rattle.std.specs.List.{AllByRecursion}
use Rattle.wm_data.specs.declared.data.DataEntry.{DataEntry}
use Rattle.wm_data.specs.declared.value.Value.{Value}
use Rattle.wm_data.specs.declared.value.Value.TheVariants as value

abbrev pub IsInType : Value → Type 0
IsInType (value.Byte n) = FitsSigned w8 n
IsInType (value.Int n) = FitsSigned w32 n
IsInType (value.Long n) = FitsSigned w64 n
IsInType (value.Bytes ns) = AllByRecursion (FitsSigned w8) ns
IsInType (value.Ints ns) = AllByRecursion (FitsSigned w32) ns
IsInType (value.Longs ns) = AllByRecursion (FitsSigned w64) ns
IsInType _ = Unit {0}

-- each value is in its type
abbrev pub AreInType : List DataEntry → Type 0
AreInType entries = AllByRecursion (λ entry. IsInType entry.value) entries
