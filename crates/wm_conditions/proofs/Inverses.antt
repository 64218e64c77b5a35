-- The constraints that have the number of constraints are these.
use Rattle.std.proofs.Common.{◌≡◌, ℕ, ◌+◌, ◌*◌, ◌/◌, ◌%◌, ◌≤◌, ◌==◌, Bool, true, false, ap, refl, ◌∙◌, arith}
use Rattle.std.specs.Int.{from_bool}
use Rattle.wm_conditions.specs.Signatures.{constraints_of, network_at, place_of, signature}
use Rattle.wm_conditions.specs.declared.conditions.Constraints.{Constraints}
use Rattle.wm_conditions.specs.declared.conditions.Network.{Network}
use Rattle.wm_conditions.specs.declared.conditions.Network.TheVariants as network

bit-low : (b : Bool) → from_bool b ≤ 1
bit-low true = omega arith
bit-low false = omega arith

bit-back : (b : Bool) → (from_bool b == 1) ≡ b
bit-back true = refl
bit-back false = refl

place-low : (n : Network) → place_of n ≤ 4
place-low network.NotRequired = omega arith
place-low network.Connected = omega arith
place-low network.Unmetered = omega arith
place-low network.NotRoaming = omega arith
place-low network.Metered = omega arith

network-back : (n : Network) → network_at (place_of n) ≡ n
network-back network.NotRequired = refl
network-back network.Connected = refl
network-back network.Unmetered = refl
network-back network.NotRoaming = refl
network-back network.Metered = refl

-- the digits of a number of five
module _ (n a b c d : ℕ) (a_low : a ≤ 1) (b_low : b ≤ 1) (c_low : c ≤ 1) (d_low : d ≤ 1) where
  first : (n * 16 + a * 8 + b * 4 + c * 2 + d) / 16 ≡ n
  first = omega arith

  second : (n * 16 + a * 8 + b * 4 + c * 2 + d) / 8 % 2 ≡ a
  second = omega arith

  third : (n * 16 + a * 8 + b * 4 + c * 2 + d) / 4 % 2 ≡ b
  third = omega arith

  fourth : (n * 16 + a * 8 + b * 4 + c * 2 + d) / 2 % 2 ≡ c
  fourth = omega arith

  fifth : (n * 16 + a * 8 + b * 4 + c * 2 + d) % 2 ≡ d
  fifth = omega arith

pub signature-back : (c : Constraints) → constraints_of (signature c) ≡ c
signature-back c =
    let n = place_of c.network in
    let charging = from_bool c.charging in
    let idle = from_bool c.idle in
    let battery = from_bool c.battery_not_low in
    let storage = from_bool c.storage_not_low in
    let one = bit-low c.charging in
    let two = bit-low c.idle in
    let three = bit-low c.battery_not_low in
    let four = bit-low c.storage_not_low in
    let network_is = ap network_at (first n charging idle battery storage one two three four) ∙ network-back c.network in
    let charging_is = ap (λ x. x == 1) (second n charging idle battery storage one two three four) ∙ bit-back c.charging in
    let idle_is = ap (λ x. x == 1) (third n charging idle battery storage one two three four) ∙ bit-back c.idle in
    let battery_is = ap (λ x. x == 1) (fourth n charging idle battery storage one two three four) ∙ bit-back c.battery_not_low in
    let storage_is = ap (λ x. x == 1) (fifth n charging idle battery storage one two three four) ∙ bit-back c.storage_not_low in
    λ i. record { network = network_is i; charging = charging_is i; idle = idle_is i; battery_not_low = battery_is i; storage_not_low = storage_is i }

pub signature-low : (c : Constraints) → signature c ≤ 79
signature-low c =
    omega (arith, place-low c.network, bit-low c.charging, bit-low c.idle, bit-low c.battery_not_low, bit-low c.storage_not_low)
