-- Conditions that are changed to meet constraints. After `androidx.work.testing.TestDriver.setAllConstraintsMet`; how it is done is this
-- project's own.
use Rattle.std.specs.Prelude.{◌&&◌, ◌||◌, Bool, true, false, not}
use Rattle.wm_conditions.specs.declared.conditions.Conditions.{Conditions}
use Rattle.wm_conditions.specs.declared.conditions.Constraints.{Constraints}
use Rattle.wm_conditions.specs.declared.conditions.Network.{Network}
use Rattle.wm_conditions.specs.declared.conditions.Network.TheVariants as network

-- whether a network is needed
abbrev pub wants_network : Network → Bool
wants_network network.NotRequired = false
wants_network _ = true

-- whether the network that is needed is to be metered, where it was or wasn't
abbrev pub metered_for : Network → Bool → Bool
metered_for network.Unmetered metered = false
metered_for network.Metered metered = true
metered_for _ metered = metered

-- whether it is to be roaming, where it was or wasn't
abbrev pub roaming_for : Network → Bool → Bool
roaming_for network.NotRoaming roaming = false
roaming_for _ roaming = roaming

-- what the constraints ask for is set, a low condition that they forbid is cleared, and the rest is left
abbrev pub meet : Constraints → Conditions → Conditions
meet c x = record {
  connected = wants_network c.network || x.connected;
  metered = metered_for c.network x.metered;
  roaming = roaming_for c.network x.roaming;
  charging = c.charging || x.charging;
  idle = c.idle || x.idle;
  battery_low = x.battery_low && not c.battery_not_low;
  storage_low = x.storage_low && not c.storage_not_low;
}
