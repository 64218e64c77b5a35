-- The asks that the lines of a script are: five names of their own, and the commands of `wm_script/specs/Lines.antt`. This project's own.
use Rattle.std.specs.Prelude.{ℕ, List, [], ◌∷◌, codes, if◌then◌else◌, map, Option, Some, None, option_and_then, option_map}
use Rattle.std.specs.Map.{lookup}
use Rattle.std.specs.Str.{bytes_eq}
use Rattle.serde_json.specs.Data as json
use Rattle.serde_json.specs.Find.{as_str, get}
use Rattle.wm_asks.specs.declared.ask.Ask.{Ask}
use Rattle.wm_asks.specs.declared.ask.Ask.TheVariants as ask
use Rattle.wm_machine.specs.Outcome.{IsAskable}
use Rattle.wm_script.specs.Lines.{command_of, cut, id_under, value_of}
use Rattle.wm_script.specs.Objects.{has_only}

-- an ask that has no further key
abbrev pub alone : Ask → json.Data → Option Ask
alone asked d = if has_only (codes "cmd" ∷ []) d then Some asked else None

-- an ask that has the key `id` beside its name
abbrev pub of_id : (List ℕ → Ask) → json.Data → Option Ask
of_id asked d = option_map asked (id_under (codes "id") d)

-- the asks by their names, each with its reader
abbrev pub readers : List (List ℕ × (json.Data → Option Ask))
readers =
    (codes "delay_met", of_id ask.DelayMet) ∷
    (codes "period_met", of_id ask.PeriodMet) ∷
    (codes "constraints_met", of_id ask.ConstraintsMet) ∷
    (codes "tick", alone ask.Tick) ∷
    (codes "wake", alone ask.Wake) ∷ []

-- what a value of this name asks, where that is no command
abbrev pub named_ask : List ℕ → json.Data → Option Ask
named_ask name d = option_and_then (λ (reader : json.Data → Option Ask). reader d) (lookup (bytes_eq name) readers)

unfoldable pub asked_by : json.Data → Option Ask
asked_by d = option_and_then (λ (name : List ℕ). named_ask name d) (option_and_then as_str (get (codes "cmd") d))

-- what a line asks, where that is no command
abbrev pub own_ask : List ℕ → Option Ask
own_ask line = option_and_then asked_by (value_of line)

-- the ask of a line
abbrev pub or_command : List ℕ → Option Ask → Ask
or_command line (Some asked) = asked
or_command line None = ask.Line (command_of line)

abbrev pub ask_of : List ℕ → Ask
ask_of line = or_command line (own_ask line)

-- the command of an ask, where it has one, is askable
abbrev pub HasAskable : Ask → Type 0
HasAskable (ask.Line asked) = IsAskable asked
HasAskable _ = Unit {0}

-- the asks of a script, one for each line
abbrev pub asks_in : List ℕ → List Ask
asks_in bytes = map ask_of (cut bytes)
