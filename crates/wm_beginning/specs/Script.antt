-- What reading a script takes from its source.
use Rattle.std.specs.Prelude.{◌≡◌, ℕ, ◌<◌, ◌≤◌, Bool, true, false, List, [], ◌++◌, length, Option, option_map, IfSome, Result, Ok, Err}
use Rattle.wm_beginning.specs.declared.script.ReadFault.{ReadFault}
use Rattle.wm_beginning.specs.declared.script.ReadFault.TheVariants.{Failed}
use Rattle.wm_faults.specs.Faults as faults

-- where the source tells what it has left, this was taken from its front
abbrev pub IsTakenFrom : Option (List ℕ) → Option (List ℕ) → List ℕ → Type 0
IsTakenFrom before now bytes = before ≡ option_map (λ rest. bytes ++ rest) now

-- where the source tells what it has left, nothing is left
abbrev pub IsAtEnd : Option (List ℕ) → Type 0
IsAtEnd left = IfSome left (λ rest. rest ≡ [])

-- the script was taken from the front of what was left: all of it, unless it is past this limit on its bytes
pub record IsReadFrom (most_bytes : ℕ) (before now : Option (List ℕ)) (script : List ℕ) : Type 0 where
  pub taken : IsTakenFrom before now script
  pub whole : length script ≤ most_bytes → IsAtEnd now

-- at most this many bytes were taken from the front of what was left
pub record IsTakenWithin (limit : ℕ) (before now : Option (List ℕ)) : Type 0 where
  pub bytes : List ℕ
  pub few : length bytes ≤ limit
  pub taken : IsTakenFrom before now bytes

-- the source is at its end, and the script is as it was
pub record IsScriptEnd (before now : Option (List ℕ)) (script longer : List ℕ) : Type 0 where
  pub at_end : IsAtEnd now
  pub nothing_taken : now ≡ before
  pub script_is : longer ≡ script

-- the script is longer by a piece that was taken, of at least one byte and no longer than there is room for
pub record IsPieceMore (before now : Option (List ℕ)) (script longer : List ℕ) (room : ℕ) : Type 0 where
  pub piece : List ℕ
  pub taken : IsTakenFrom before now piece
  pub script_is : longer ≡ script ++ piece
  pub not_empty : 0 < length piece
  pub fits : length piece ≤ room

-- One call of the source: the end, a piece, or a fault, which may have taken some bytes.
abbrev pub IsPieceOf : Result Bool ReadFault → Option (List ℕ) → Option (List ℕ) → List ℕ → List ℕ → ℕ → Type 0
IsPieceOf (Ok true) before now script longer room = IsScriptEnd before now script longer
IsPieceOf (Ok false) before now script longer room = IsPieceMore before now script longer room
IsPieceOf (Err fault) before now script longer room = IsTakenWithin room before now

abbrev pub is_read_failed : {T : Type 0} → Result T ReadFault → Bool
is_read_failed (Err Failed) = true
is_read_failed _ = false

-- `Failed` comes only where the count rose, and any other answer leaves it
abbrev pub ReadCause : {T : Type 0} → Result T ReadFault → ℕ → ℕ → Type 0
ReadCause result before now = faults.HasCause (is_read_failed result) before now
