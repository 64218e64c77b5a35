-- Conditions that were changed to meet constraints meet them.
use Rattle.std.proofs.Common.{◌≡◌, ◌&&◌, ◌||◌, Bool, true, false, not, refl, ap}
use Rattle.std.proofs.lemmas.Bool.{and_from}
use Rattle.wm_asks.specs.Meet.{meet, metered_for, roaming_for, wants_network}
use Rattle.wm_conditions.specs.Met.{met, network_met}
use Rattle.wm_conditions.specs.declared.conditions.Conditions.{Conditions}
use Rattle.wm_conditions.specs.declared.conditions.Constraints.{Constraints}
use Rattle.wm_conditions.specs.declared.conditions.Network.{Network}
use Rattle.wm_conditions.specs.declared.conditions.Network.TheVariants as network

network-met : (needed : Network) (x d : Conditions) → d.connected ≡ (wants_network needed || x.connected)
    → d.metered ≡ metered_for needed x.metered → d.roaming ≡ roaming_for needed x.roaming → network_met needed d ≡ true
network-met network.NotRequired x d connected metered roaming = refl
network-met network.Connected x d connected metered roaming = connected
network-met network.Unmetered x d connected metered roaming = and_from _ _ connected (ap not metered)
network-met network.NotRoaming x d connected metered roaming = and_from _ _ connected (ap not roaming)
network-met network.Metered x d connected metered roaming = and_from _ _ connected metered

-- what is asked for holds
asked-holds : (asked holds : Bool) → (not asked || (asked || holds)) ≡ true
asked-holds true holds = refl
asked-holds false holds = refl

-- and what is forbidden doesn't
forbidden-doesnt : (forbidden low : Bool) → (not forbidden || not (low && not forbidden)) ≡ true
forbidden-doesnt true true = refl
forbidden-doesnt true false = refl
forbidden-doesnt false low = refl

pub meet-meets : (c : Constraints) (x : Conditions) → met c (meet c x) ≡ true
unfolding met
meet-meets c x =
    and_from _ _ (and_from _ _ (and_from _ _ (and_from _ _ (network-met c.network x (meet c x) refl refl refl) (asked-holds c.charging x.charging))
    (asked-holds c.idle x.idle)) (forbidden-doesnt c.battery_not_low x.battery_low)) (forbidden-doesnt c.storage_not_low x.storage_low)
