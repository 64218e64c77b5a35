-- The first line of an audit: the hands, and how many rows follow; and the last one: how many bytes of text follow.
use Rattle.std.specs.Prelude.{ℕ, ◌+◌, false, List, [], ◌∷◌, codes, length, nat_le, if◌then◌else◌, Option, Some, None, unwrap_or}
use Rattle.std.specs.Map.{lookup}
use Rattle.std.specs.Str.{bytes_eq}
use Rattle.serde_json.specs.Data as json
use Rattle.wm_audit_text.specs.Fields.{items_at, number_at, text_at}
use Rattle.wm_data.specs.DataJson.{list_of}
use Rattle.wm_machine.specs.declared.state.Instance.{Instance}
use Rattle.wm_spelling.specs.Works.{count}
use Rattle.wm_worker.specs.declared.kind.Kind.{Kind}
use Rattle.wm_worker.specs.declared.kind.Kind.TheVariants as kind

-- ---- written

abbrev pub kind_name : Kind → List ℕ
kind_name kind.Echo = codes "Echo"
kind_name kind.Sum = codes "Sum"
kind_name kind.FailUntil = codes "FailUntil"
kind_name kind.RetryUntil = codes "RetryUntil"
kind_name kind.Count = codes "Count"
kind_name kind.Wait = codes "Wait"
kind_name kind.Custom = codes "Custom"

-- a hand: its class and its kind
abbrev pub hand_json : Instance → json.Data
hand_json instance = json.object
    (json.member (codes "class") (json.string instance.class)
    (json.member (codes "kind") (json.string (kind_name instance.kind)) json.no_members))

-- the hands and the number of rows
abbrev pub header_json : List Instance → ℕ → json.Data
header_json hands rows = json.object
    (json.member (codes "hands") (list_of hand_json hands) (json.member (codes "rows") (count rows) json.no_members))

-- the number of bytes that follow
abbrev pub end_json : ℕ → json.Data
end_json size = json.object (json.member (codes "text") (count size) json.no_members)

-- ---- read

abbrev pub kinds : List (List ℕ × Kind)
kinds =
    (codes "Echo", kind.Echo) ∷
    (codes "Sum", kind.Sum) ∷
    (codes "FailUntil", kind.FailUntil) ∷
    (codes "RetryUntil", kind.RetryUntil) ∷
    (codes "Count", kind.Count) ∷
    (codes "Wait", kind.Wait) ∷ []

abbrev pub kind_in : json.Data → Kind
kind_in d = unwrap_or (lookup (bytes_eq (text_at (codes "kind") d)) kinds) kind.Custom

-- the hand of this number, as a run is given it
abbrev pub hand_in : ℕ → json.Data → Instance
hand_in number d = record { number = number; class = text_at (codes "class") d; kind = kind_in d; out = false; retired = false }

-- hands, numbered from this number on
abbrev pub hands_from : ℕ → List json.Data → List Instance
hands_from number [] = []
hands_from number (d ∷ ds) = hand_in number d ∷ hands_from (number + 1) ds

-- at most 10,000 of them
unfoldable pub hands_in : json.Data → Option (List Instance)
hands_in d = if nat_le (length (items_at (codes "hands") d)) 10000 then Some (hands_from 0 (items_at (codes "hands") d)) else None

unfoldable pub end_in : json.Data → ℕ
end_in d = number_at (codes "text") d
