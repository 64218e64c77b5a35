-- All conditions as they stand in a line. The grammar is this project's own choice.
use Rattle.std.specs.Prelude.{ℕ, List, [], ◌∷◌, codes, if◌then◌else◌, Option, Some, None}
use Rattle.serde_json.specs.Data as json
use Rattle.serde_json.specs.Find.{get}
use Rattle.wm_conditions.specs.declared.conditions.Conditions.{Conditions}
use Rattle.wm_script.specs.Objects.{has_only}
use Rattle.wm_script.specs.Values.{◌>>=◌, flag_at}

abbrev pub condition_keys : List (List ℕ)
condition_keys =
    codes "battery_low" ∷ codes "charging" ∷ codes "cmd" ∷ codes "connected" ∷ codes "idle" ∷ codes "metered" ∷ codes "roaming"
    ∷ codes "storage_low" ∷ []

-- all seven conditions, each false where it is absent
unfoldable pub conditions_in : json.Data → Option Conditions
conditions_in d = if has_only condition_keys d then (do
  connected ← flag_at (get (codes "connected") d)
  metered ← flag_at (get (codes "metered") d)
  roaming ← flag_at (get (codes "roaming") d)
  charging ← flag_at (get (codes "charging") d)
  idle ← flag_at (get (codes "idle") d)
  battery_low ← flag_at (get (codes "battery_low") d)
  storage_low ← flag_at (get (codes "storage_low") d)
  Some (record {
    connected = connected;
    metered = metered;
    roaming = roaming;
    charging = charging;
    idle = idle;
    battery_low = battery_low;
    storage_low = storage_low;
  })) else None
