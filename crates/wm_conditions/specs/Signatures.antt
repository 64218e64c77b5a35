-- Constraints as numbers, and the bits of those that are met. The numbers are this project's own choice.
use Rattle.std.specs.Prelude.{◌≡◌, ℕ, ◌+◌, ◌*◌, ◌/◌, ◌%◌, ◌^◌, ◌≤◌, ◌==◌, ◌&&◌, Bool, false, not, if◌then◌else◌}
use Rattle.std.specs.Int.{from_bool}
use Rattle.wm_conditions.specs.Met.{met}
use Rattle.wm_conditions.specs.declared.conditions.Conditions.{Conditions}
use Rattle.wm_conditions.specs.declared.conditions.Constraints.{Constraints}
use Rattle.wm_conditions.specs.declared.conditions.Network.{Network}
use Rattle.wm_conditions.specs.declared.conditions.Network.TheVariants as network

-- the place of a network in its list
abbrev pub place_of : Network → ℕ
place_of network.NotRequired = 0
place_of network.Connected = 1
place_of network.Unmetered = 2
place_of network.NotRoaming = 3
place_of network.Metered = 4

-- the number of constraints, from 0 to 79
abbrev pub signature : Constraints → ℕ
signature c =
    place_of c.network * 16
    + from_bool c.charging * 8
    + from_bool c.idle * 4
    + from_bool c.battery_not_low * 2
    + from_bool c.storage_not_low

-- the network at a place of its list
abbrev pub network_at : ℕ → Network
network_at place =
    if place == 0 then network.NotRequired
    else (if place == 1 then network.Connected
    else (if place == 2 then network.Unmetered
    else (if place == 3 then network.NotRoaming else network.Metered)))

-- the constraints that have a number
abbrev pub constraints_of : ℕ → Constraints
constraints_of number = record {
  network = network_at (number / 16);
  charging = number / 8 % 2 == 1;
  idle = number / 4 % 2 == 1;
  battery_not_low = number / 2 % 2 == 1;
  storage_not_low = number % 2 == 1;
}

-- whether a bit is set
abbrev pub has_bit : ℕ → ℕ → Bool
has_bit bits place = (bits / 2 ^ place) % 2 == 1

-- the bits of the constraints that pass a test are set, and no other
pub record AreBitsOf (test : Constraints → Bool) (bits : ℕ) : Type 0 where
  pub each : (c : Constraints) → has_bit bits (signature c) ≡ test c
  pub no_other : (place : ℕ) → 80 ≤ place → has_bit bits place ≡ false

-- those of the constraints that are met
abbrev pub AreMet : Conditions → ℕ → Type 0
AreMet d = AreBitsOf (λ c. met c d)

-- of those that weren't met and now are
abbrev pub AreRisen : Conditions → Conditions → ℕ → Type 0
AreRisen old new = AreBitsOf (λ c. met c new && not (met c old))

-- of those that were met and now aren't
abbrev pub AreFallen : Conditions → Conditions → ℕ → Type 0
AreFallen old new = AreBitsOf (λ c. met c old && not (met c new))
