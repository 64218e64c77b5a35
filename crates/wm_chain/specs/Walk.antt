-- Which works are a batch, and the first fault where they aren't. After the guide's page "Chaining work", where a chain is of one-time work; the
-- faults and their order are this project's own choice.
use Rattle.std.specs.Prelude.{◌≡◌, ℕ, ◌==◌, ◌&&◌, not, List, [], ◌∷◌, ◌++◌, length, find, if◌then◌else◌, Option, Some, None, option_map, Result, Ok, Err}
use Rattle.wm_chain.specs.declared.fault.ChainFault.{ChainFault}
use Rattle.wm_chain.specs.declared.fault.ChainFault.TheVariants as fault
use Rattle.wm_request.specs.Batches.{BatchFields, has_id, is_periodic, periodic_ids}
use Rattle.wm_request.specs.declared.request.Node.{Node}

-- ---- the faults of one work, in their order

-- an earlier work has its id
abbrev pub id_twice : List (List ℕ) → Node → Option ChainFault
id_twice before work = if has_id before work.request.id then Some (fault.IdTwice work.request.id) else None

-- the first of these ids that stood before, among those seen or these
abbrev pub again : List (List ℕ) → List (List ℕ) → Option (List ℕ)
again seen [] = None
again seen (id ∷ ids) = if has_id seen id then Some id else again (seen ++ id ∷ []) ids

-- it names an id a second time
abbrev pub named_twice : Node → Option ChainFault
named_twice work = option_map fault.IdTwice (again [] work.after)

-- it is periodic, and is after another one
abbrev pub periodic_after : Node → Option ChainFault
periodic_after work = if is_periodic work && not (length work.after == 0) then Some (fault.PeriodicInChain work.request.id) else None

-- it is after a periodic one
abbrev pub after_periodic : List (List ℕ) → Node → Option ChainFault
after_periodic periodic work = option_map fault.PeriodicInChain (find (has_id periodic) work.after)

abbrev pub first_fault : List (Option ChainFault) → Option ChainFault
first_fault [] = None
first_fault (Some found ∷ checks) = Some found
first_fault (None ∷ checks) = first_fault checks

-- the first fault of a work, where the periodic works of the batch and the works before it have these ids
abbrev pub fault_of : List (List ℕ) → List (List ℕ) → Node → Option ChainFault
fault_of periodic before work = first_fault (id_twice before work ∷ named_twice work ∷ periodic_after work ∷ after_periodic periodic work ∷ [])

-- ---- the first fault of works

-- of works that come after those of these ids
abbrev pub fault_from : List (List ℕ) → List (List ℕ) → List Node → Option ChainFault
fault_from periodic before [] = None
fault_from periodic before (work ∷ works) = first_fault (fault_of periodic before work ∷ fault_from periodic (before ++ work.request.id ∷ []) works ∷ [])

abbrev pub fault_in : List Node → Option ChainFault
fault_in works = fault_from (periodic_ids works) [] works

-- the batch of works, or their first fault
abbrev pub batched_by : Option ChainFault → List Node → Result BatchFields ChainFault
batched_by None works = Ok (record { works = works })
batched_by (Some found) works = Err found

abbrev pub batched : List Node → Result BatchFields ChainFault
batched works = batched_by (fault_in works) works

-- A fault in the place of what a call is to answer: it is that fault, or memory was refused.
abbrev pub IsFaultOf : {T : Type 0} → Result T ChainFault → ChainFault → Type 0
IsFaultOf answer (fault.IdTwice id) = answer ≡ Err (fault.IdTwice id)
IsFaultOf answer (fault.PeriodicInChain id) = answer ≡ Err (fault.PeriodicInChain id)
IsFaultOf answer fault.Memory = Unit {0}
