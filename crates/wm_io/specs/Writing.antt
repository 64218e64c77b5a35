-- What writing a text gives to its sink.
use Rattle.std.specs.Prelude.{◌≡◌, ℕ, Bool, true, false, List, ◌++◌, Option, option_map, Result, Err}
use Rattle.wm_io.specs.declared.writing.WriteFault.{WriteFault}
use Rattle.wm_io.specs.declared.writing.WriteFault.TheVariants.{Failed}
use Rattle.wm_faults.specs.Faults as faults

-- where the sink tells what it was given, this came to its end
abbrev pub IsAppended : Option (List ℕ) → Option (List ℕ) → List ℕ → Type 0
IsAppended before now text = now ≡ option_map (λ given. given ++ text) before

abbrev pub is_write_failed : {T : Type 0} → Result T WriteFault → Bool
is_write_failed (Err Failed) = true
is_write_failed _ = false

-- `Failed` comes only where the count rose, and any other answer leaves it
abbrev pub WriteCause : {T : Type 0} → Result T WriteFault → ℕ → ℕ → Type 0
WriteCause result before now = faults.HasCause (is_write_failed result) before now
