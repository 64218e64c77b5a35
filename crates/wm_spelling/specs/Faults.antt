-- What is wrong with a line, as it is spelled in the place of a command, and as it is read there.
use Rattle.std.specs.Prelude.{ℕ, List, [], ◌∷◌, codes, Option, Some, option_and_then, option_map}
use Rattle.std.specs.Map.{lookup}
use Rattle.std.specs.Str.{bytes_eq}
use Rattle.serde_json.specs.Data as json
use Rattle.serde_json.specs.Find.{as_number, as_str, as_u64, get}
use Rattle.wm_machine.specs.declared.command.LineFault.{LineFault}
use Rattle.wm_machine.specs.declared.command.LineFault.TheVariants as fault
use Rattle.wm_script.specs.Values.{id_in}
use Rattle.wm_spelling.specs.Works.{count, id_json}

-- ---- written

-- the name of the fault, and then these
abbrev pub named_fault : List ℕ → json.Members → json.Data
named_fault name more = json.object (json.member (codes "faulty") (json.string name) more)

-- the fault by its name, with its field under the field's name
abbrev pub fault_json : LineFault → json.Data
fault_json fault.Bad = named_fault (codes "Bad") json.no_members
fault_json fault.EmptyKey = named_fault (codes "EmptyKey") json.no_members
fault_json (fault.BadData key) = named_fault (codes "BadData") (json.member (codes "key") (json.string key) json.no_members)
fault_json (fault.TooLarge size) = named_fault (codes "TooLarge") (json.member (codes "size") (count size) json.no_members)
fault_json fault.NoClass = named_fault (codes "NoClass") json.no_members
fault_json fault.TooManyTags = named_fault (codes "TooManyTags") json.no_members
fault_json fault.DelayTooLong = named_fault (codes "DelayTooLong") json.no_members
fault_json (fault.IdTwice id) = named_fault (codes "IdTwice") (json.member (codes "id") (id_json id) json.no_members)
fault_json (fault.PeriodicInChain id) = named_fault (codes "PeriodicInChain") (json.member (codes "id") (id_json id) json.no_members)

-- ---- read

-- the field of a fault: a text, a number, an id
unfoldable pub key_of : json.Data → Option (List ℕ)
key_of d = option_and_then as_str (get (codes "key") d)

unfoldable pub size_of : json.Data → Option ℕ
size_of d = option_and_then as_u64 (option_and_then as_number (get (codes "size") d))

unfoldable pub id_of : json.Data → Option (List ℕ)
id_of d = option_and_then id_in (get (codes "id") d)

-- the faults by their names, each with what is read of its field
abbrev pub fault_readers : List (List ℕ × (json.Data → Option LineFault))
fault_readers =
    (codes "Bad", λ d. Some fault.Bad) ∷
    (codes "EmptyKey", λ d. Some fault.EmptyKey) ∷
    (codes "BadData", λ d. option_map fault.BadData (key_of d)) ∷
    (codes "TooLarge", λ d. option_map fault.TooLarge (size_of d)) ∷
    (codes "NoClass", λ d. Some fault.NoClass) ∷
    (codes "TooManyTags", λ d. Some fault.TooManyTags) ∷
    (codes "DelayTooLong", λ d. Some fault.DelayTooLong) ∷
    (codes "IdTwice", λ d. option_map fault.IdTwice (id_of d)) ∷
    (codes "PeriodicInChain", λ d. option_map fault.PeriodicInChain (id_of d)) ∷ []

-- the fault of this name that a value is
abbrev pub fault_under : List ℕ → json.Data → Option LineFault
fault_under name d = option_and_then (λ reader. reader d) (lookup (bytes_eq name) fault_readers)

-- the fault that a value is
unfoldable pub fault_of : json.Data → Option LineFault
fault_of d = option_and_then (λ name. fault_under name d) (option_and_then as_str (get (codes "faulty") d))
