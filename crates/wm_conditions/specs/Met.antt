-- When the conditions meet the constraints of a work. After the guide's page "Define work requests", "Work constraints".
use Rattle.std.specs.Prelude.{◌&&◌, ◌||◌, Bool, true, not}
use Rattle.wm_conditions.specs.declared.conditions.Conditions.{Conditions}
use Rattle.wm_conditions.specs.declared.conditions.Constraints.{Constraints}
use Rattle.wm_conditions.specs.declared.conditions.Network.{Network}
use Rattle.wm_conditions.specs.declared.conditions.Network.TheVariants as network

abbrev pub network_met : Network → Conditions → Bool
network_met network.NotRequired d = true
network_met network.Connected d = d.connected
network_met network.Unmetered d = d.connected && not d.metered
network_met network.NotRoaming d = d.connected && not d.roaming
network_met network.Metered d = d.connected && d.metered

-- every constraint that is set holds
unfoldable pub met : Constraints → Conditions → Bool
met c d =
    network_met c.network d
    && (not c.charging || d.charging)
    && (not c.idle || d.idle)
    && (not c.battery_not_low || not d.battery_low)
    && (not c.storage_not_low || not d.storage_low)
