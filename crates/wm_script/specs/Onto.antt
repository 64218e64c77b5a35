-- A list that is read item by item: the parts so far, or the first fault, and what one item more makes of them.
use Rattle.std.specs.Prelude.{◌≡◌, List, [], ◌∷◌, ◌++◌, Result, Ok, Err}
use Rattle.wm_machine.specs.declared.command.LineFault.{LineFault}
use Rattle.wm_script.specs.Parts.{◌>>=◌, IsFaultOf, joined}
use Rattle.wm_script.specs.declared.parts.Unread.{Unread}
use Rattle.wm_script.specs.declared.parts.Unread.TheVariants.{Form, Fault}

-- the parts so far, or the first fault, before those of the items that are left
abbrev pub onto : {T : Type 0} → Result (List T) LineFault → Result (List T) Unread → Result (List T) Unread
onto (Ok parts) others = others >>= λ more. Ok (parts ++ more)
onto (Err first) (Err Form) = Err Form
onto (Err first) others = Err (Fault first)

-- one part more, where there is no fault yet
abbrev pub with_part : {T : Type 0} → Result (List T) LineFault → T → Result (List T) LineFault
with_part (Ok parts) part = Ok (parts ++ part ∷ [])
with_part (Err first) part = Err first

-- a fault, where there is none yet
abbrev pub with_fault : {T : Type 0} → Result (List T) LineFault → LineFault → Result (List T) LineFault
with_fault (Ok parts) fault = Err fault
with_fault (Err first) fault = Err first

-- what is made of the parts by the next item, whatever the others are
abbrev pub IsOneMore : {T : Type 0} → Result (List T) LineFault → Result T Unread → Result (List T) LineFault → Type 0
IsOneMore all next more = (others : _) → onto more others ≡ onto all (joined next others)

-- the fault of the whole list by its next item, whatever the others are
abbrev pub IsStopped : {T : Type 0} → Result (List T) LineFault → Result T Unread → Unread → Type 0
IsStopped all next fault = (others : _) → IsFaultOf (onto all (joined next others)) fault
