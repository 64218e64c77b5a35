-- What stands in a line of a session, part by part: each has a value, or the fault of the line.
use Rattle.std.specs.Prelude.{◌≡◌, ℕ, List, [], ◌∷◌, codes, length, if◌then◌else◌, ok_or, option_and_then, Option, Some, None, Result, Ok, Err}
use Rattle.serde_json.specs.Data as json
use Rattle.serde_json.specs.Find.{as_array, as_str, get}
use Rattle.wm_data.specs.DataRead.{item_list, read_data}
use Rattle.wm_data.specs.declared.data.DataEntry.{DataEntry}
use Rattle.wm_data.specs.declared.fault.DataFault.{DataFault}
use Rattle.wm_data.specs.declared.fault.DataFault.TheVariants as data_fault
use Rattle.wm_machine.specs.declared.command.LineFault.{LineFault}
use Rattle.wm_machine.specs.declared.command.LineFault.TheVariants as fault
use Rattle.wm_script.specs.Objects.{has_only}
use Rattle.wm_script.specs.Parts.{is_count}
use Rattle.wm_serve_text.specs.Names.{may_name}
use Rattle.wm_serve_text.specs.declared.parts.Unread.{Unread}
use Rattle.wm_serve_text.specs.declared.parts.Unread.TheVariants.{Fault, Memory}

-- ---- faults

infixl 10 ◌>>=◌
abbrev pub ◌>>=◌ : {A B : Type 0} → Result A LineFault → (A → Result B LineFault) → Result B LineFault
Ok x >>= f = f x
Err found >>= f = Err found

-- what has to be there
abbrev pub formed : {T : Type 0} → Option T → Result T LineFault
formed o = ok_or o fault.Bad

-- the first fault of Data as that of its line; no reading of Data answers want of memory
abbrev pub fault_of : DataFault → LineFault
fault_of data_fault.EmptyKey = fault.EmptyKey
fault_of (data_fault.BadData key) = fault.BadData key
fault_of (data_fault.TooLarge size) = fault.TooLarge size
fault_of data_fault.Memory = fault.Bad

-- why a line isn't read whose Data have this fault, or that memory was refused
abbrev pub unread_for : DataFault → Unread
unread_for data_fault.Memory = Memory
unread_for found = Fault (fault_of found)

abbrev pub or_fault : {T : Type 0} → Result T DataFault → Result T LineFault
or_fault (Ok x) = Ok x
or_fault (Err found) = Err (fault_of found)

-- why a call gives no such part: the part has this fault, or memory was refused
abbrev pub IsUnread : {T : Type 0} → Result T LineFault → Unread → Type 0
IsUnread part (Fault found) = part ≡ Err found
IsUnread part Memory = Unit {0}

-- ---- the names of runs

-- the name of a run
unfoldable pub run_in : json.Data → Result (List ℕ) LineFault
run_in d = do
  text ← formed (as_str d)
  if may_name text then Ok text else Err fault.Bad

-- the run that a line is about, which has no other key than these
unfoldable pub run_of : List (List ℕ) → json.Data → Result (List ℕ) LineFault
run_of keys d = if has_only keys d then (do
  run ← formed (get (codes "run") d)
  run_in run) else Err fault.Bad

-- the names that the items of a list are
abbrev pub each_run : List json.Data → Result (List (List ℕ)) LineFault
each_run [] = Ok []
each_run (d ∷ ds) = do
  run ← run_in d
  runs ← each_run ds
  Ok (run ∷ runs)

-- 1 to 1,000 of them
unfoldable pub runs_in : json.Data → Result (List (List ℕ)) LineFault
runs_in d = do
  items ← formed (as_array d)
  if is_count (length (item_list items)) then each_run (item_list items) else Err fault.Bad

-- ---- Data

-- what a run ended with: empty where there is none
unfoldable pub data_at : Option json.Data → Result (List DataEntry) LineFault
data_at None = Ok []
data_at (Some d) = or_fault (read_data d)

-- what a run tells, where it tells something
unfoldable pub progress_at : Option json.Data → Result (Option (List DataEntry)) LineFault
progress_at None = Ok None
progress_at (Some d) = do
  told ← or_fault (read_data d)
  Ok (Some told)
