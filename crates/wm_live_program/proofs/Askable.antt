-- The asks of a script are askable.
use Rattle.std.proofs.Common.{ℕ, Bool, true, false, List, [], ◌∷◌, codes, map, Option, Some, None, IfSome, option_and_then, option_map, if◌then◌else◌}
use Rattle.std.specs.List.{AllByRecursion}
use Rattle.std.specs.Map.{lookup}
use Rattle.std.specs.Str.{bytes_eq}
use Rattle.serde_json.specs.Data as json
use Rattle.serde_json.specs.Find.{as_str, get}
use Rattle.wm_asks.specs.declared.ask.Ask.{Ask}
use Rattle.wm_asks.specs.declared.ask.Ask.TheVariants as ask
use Rattle.wm_live_program.specs.Asks.{ask_of, asked_by, asks_in, HasAskable, named_ask, or_command, own_ask, readers}
use Rattle.wm_script.proofs.BuiltCommands.{IsAskable-command_of}
use Rattle.wm_script.specs.Lines.{cut, id_under, value_of}
use Rattle.wm_script.specs.Objects.{has_only}

-- ---- an ask of its own

some_where : (test : Bool) (asked : Ask) → HasAskable asked → IfSome (if test then Some asked else None) HasAskable
some_where true asked has = has
some_where false asked has = tt

some_mapped : (asked : List ℕ → Ask) → ((id : List ℕ) → HasAskable (asked id)) → (found : Option (List ℕ)) → IfSome (option_map asked found) HasAskable
some_mapped asked has None = tt
some_mapped asked has (Some id) = has id

found : (test : Bool) (reader : json.Data → Option Ask) (others : Option (json.Data → Option Ask)) (d : json.Data) → IfSome (reader d) HasAskable
    → IfSome (option_and_then (λ (one : json.Data → Option Ask). one d) others) HasAskable
    → IfSome (option_and_then (λ (one : json.Data → Option Ask). one d) (if test then Some reader else others)) HasAskable
found true reader others d its rest = its
found false reader others d its rest = rest

-- each reader of a table reads an ask that is askable, and so does the one that is found
found_reader : (test : List ℕ → Bool) (table : List (List ℕ × (json.Data → Option Ask))) (d : json.Data)
    → AllByRecursion (λ (entry : List ℕ × (json.Data → Option Ask)). IfSome (entry.1 d) HasAskable) table
    → IfSome (option_and_then (λ (reader : json.Data → Option Ask). reader d) (lookup test table)) HasAskable
found_reader test [] d each = tt
found_reader test (entry ∷ table) d each = found (test entry.0) entry.1 (lookup test table) d each.0 (found_reader test table d each.1)

each_reader : (d : json.Data) → AllByRecursion (λ (entry : List ℕ × (json.Data → Option Ask)). IfSome (entry.1 d) HasAskable) readers
each_reader d =
    let id = id_under (codes "id") d in
    let is_alone = has_only (codes "cmd" ∷ []) d in (
      some_mapped ask.DelayMet (λ id. tt) id,
      (
        some_mapped ask.PeriodMet (λ id. tt) id,
        (some_mapped ask.ConstraintsMet (λ id. tt) id, (some_where is_alone ask.Tick tt, (some_where is_alone ask.Wake tt, tt))),
      ),
    )

then_some : {A : Type 0} (f : A → Option Ask) → ((a : A) → IfSome (f a) HasAskable) → (from : Option A) → IfSome (option_and_then f from) HasAskable
then_some f has None = tt
then_some f has (Some a) = has a

has-asked_by : (d : json.Data) → IfSome (asked_by d) HasAskable
unfolding asked_by
has-asked_by d =
    then_some (λ (name : List ℕ). named_ask name d) (λ name. found_reader (bytes_eq name) readers d (each_reader d))
    (option_and_then as_str (get (codes "cmd") d))

-- ---- a line and a script

has-or_command : (line : List ℕ) (own : Option Ask) → IfSome own HasAskable → HasAskable (or_command line own)
has-or_command line None has = IsAskable-command_of line
has-or_command line (Some asked) has = has

pub has-ask_of : (line : List ℕ) → HasAskable (ask_of line)
has-ask_of line = has-or_command line (own_ask line) (then_some asked_by has-asked_by (value_of line))

each_ask : (lines : List (List ℕ)) → AllByRecursion HasAskable (map ask_of lines)
each_ask [] = tt
each_ask (line ∷ lines) = (has-ask_of line, each_ask lines)

pub has-asks_in : (bytes : List ℕ) → AllByRecursion HasAskable (asks_in bytes)
has-asks_in bytes = each_ask (cut bytes)
