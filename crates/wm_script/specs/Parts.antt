-- What stands in a line, part by part: each has a value or a fault. A line that isn't in the form has no other fault, so a part that isn't
-- in it comes before every fault of a part that is. The order of the faults is this project's own choice.
use Rattle.std.specs.Prelude.{◌≡◌, ◌&&◌, ℕ, Bool, List, [], ◌∷◌, length, nat_le, nat_lt, if◌then◌else◌, ok_or, Option, Some, None, Result, Ok, Err}
use Rattle.serde_json.specs.Data as json
use Rattle.serde_json.specs.Find.{as_array}
use Rattle.wm_chain.specs.declared.fault.ChainFault.{ChainFault}
use Rattle.wm_chain.specs.declared.fault.ChainFault.TheVariants as chain_fault
use Rattle.wm_data.specs.DataRead.{item_list}
use Rattle.wm_data.specs.declared.fault.DataFault.{DataFault}
use Rattle.wm_data.specs.declared.fault.DataFault.TheVariants as data_fault
use Rattle.wm_machine.specs.declared.command.LineFault.TheVariants as line_fault
use Rattle.wm_request.specs.declared.fault.RequestFault.{RequestFault}
use Rattle.wm_request.specs.declared.fault.RequestFault.TheVariants as request_fault
use Rattle.wm_script.specs.declared.parts.Unread.{Unread}
use Rattle.wm_script.specs.declared.parts.Unread.TheVariants.{Form, Fault, Memory}

-- ---- faults

-- what a fault of Data, of a request and of a chain is to the line
abbrev pub of_data : DataFault → Unread
of_data data_fault.EmptyKey = Fault line_fault.EmptyKey
of_data (data_fault.BadData key) = Fault (line_fault.BadData key)
of_data (data_fault.TooLarge size) = Fault (line_fault.TooLarge size)
of_data data_fault.Memory = Memory

abbrev pub of_request : RequestFault → Unread
of_request request_fault.NoClass = Fault line_fault.NoClass
of_request request_fault.TooManyTags = Fault line_fault.TooManyTags
of_request request_fault.DelayTooLong = Fault line_fault.DelayTooLong
of_request request_fault.Memory = Memory

abbrev pub of_chain : ChainFault → Unread
of_chain (chain_fault.IdTwice id) = Fault (line_fault.IdTwice id)
of_chain (chain_fault.PeriodicInChain id) = Fault (line_fault.PeriodicInChain id)
of_chain chain_fault.Memory = Memory

-- an answer, with its fault as that of the line
abbrev pub or_fault : {T E : Type 0} → (E → Unread) → Result T E → Result T Unread
or_fault of_fault (Ok x) = Ok x
or_fault of_fault (Err found) = Err (of_fault found)

-- A fault in the place of what a call is to answer: it is that fault, or memory was refused.
abbrev pub IsFaultOf : {T : Type 0} → Result T Unread → Unread → Type 0
IsFaultOf answer Form = answer ≡ Err Form
IsFaultOf answer (Fault found) = answer ≡ Err (Fault found)
IsFaultOf answer Memory = Unit {0}

infixl 10 ◌>>=◌
abbrev pub ◌>>=◌ : {A B : Type 0} → Result A Unread → (A → Result B Unread) → Result B Unread
Ok x >>= f = f x
Err found >>= f = Err found

-- what has to be there
abbrev pub formed : {T : Type 0} → Option T → Result T Unread
formed o = ok_or o Form

-- ---- lists

-- a part in front of others
abbrev pub joined : {T : Type 0} → Result T Unread → Result (List T) Unread → Result (List T) Unread
joined (Ok x) others = others >>= λ xs. Ok (x ∷ xs)
joined (Err Form) others = Err Form
joined (Err found) (Err Form) = Err Form
joined (Err found) others = Err found

-- what each item is, or the first fault, where one that isn't in the form comes first
abbrev pub each_in : {T : Type 0} → (json.Data → Result T Unread) → List json.Data → Result (List T) Unread
each_in f [] = Ok []
each_in f (d ∷ ds) = joined (f d) (each_in f ds)

-- the items of a list
abbrev pub items_in : json.Data → Result (List json.Data) Unread
items_in d = do
  items ← formed (as_array d)
  Ok (item_list items)

-- a list; an empty one where there is none
abbrev pub list_at : {T : Type 0} → (json.Data → Result T Unread) → Option json.Data → Result (List T) Unread
list_at f None = Ok []
list_at f (Some d) = do
  items ← items_in d
  each_in f items

-- 1 to 1,000 of them
abbrev pub is_count : ℕ → Bool
is_count count = nat_lt 0 count && nat_le count 1000

-- a list of 1 to 1,000 items
abbrev pub some_in : {T : Type 0} → (json.Data → Result T Unread) → json.Data → Result (List T) Unread
some_in f d = do
  items ← items_in d
  if is_count (length items) then each_in f items else Err Form
