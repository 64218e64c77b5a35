-- The constraints of a work that asks for none, and the conditions that a store opens with. The former are the default of
-- `androidx.work.Constraints`; that nothing holds at opening is this project's own choice.
use Rattle.std.specs.Prelude.{false}
use Rattle.wm_conditions.specs.declared.conditions.Conditions.{Conditions}
use Rattle.wm_conditions.specs.declared.conditions.Constraints.{Constraints}
use Rattle.wm_conditions.specs.declared.conditions.Network.TheVariants.{NotRequired}

-- no network is asked for, and nothing else
abbrev pub unconstrained : Constraints
unconstrained = record {
  network = NotRequired;
  charging = false;
  idle = false;
  battery_not_low = false;
  storage_not_low = false;
}

-- there is no network, the device neither charges nor is idle, and neither battery nor storage is low
abbrev pub opening_conditions : Conditions
opening_conditions = record {
  connected = false;
  metered = false;
  roaming = false;
  charging = false;
  idle = false;
  battery_low = false;
  storage_low = false;
}
