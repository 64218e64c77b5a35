-- Conditions are the same where each of their fields is.
use Rattle.std.proofs.Common.{◌≡◌, ◌&&◌, Bool, true, false, refl, sym, ◌∙◌}
use Rattle.std.proofs.lemmas.Bool.{and_parts}
use Rattle.std.specs.Bool.{beq}
use Rattle.wm_conditions.specs.declared.conditions.Conditions.{Conditions as ConditionFields}
use Rattle.wm_conditions.proofs.tracker.Tracker.met_under.Goals as goal

same-truth : (one other : Bool) → beq one other ≡ true → one ≡ other
same-truth true true same = refl
same-truth true false same = sym same
same-truth false true same = same
same-truth false false same = refl

same-conditions : (one other : ConditionFields)
    → (beq one.connected other.connected && (beq one.metered other.metered && (beq one.roaming other.roaming && (beq one.charging other.charging
    && (beq one.idle other.idle && (beq one.battery_low other.battery_low && beq one.storage_low other.storage_low)))))) ≡ true → one ≡ other
same-conditions one other all i =
    let connected = and_parts _ _ all in
    let metered = and_parts _ _ connected.1 in
    let roaming = and_parts _ _ metered.1 in
    let charging = and_parts _ _ roaming.1 in
    let idle = and_parts _ _ charging.1 in
    let low = and_parts _ _ idle.1 in
    record {
      connected = same-truth one.connected other.connected connected.0 i;
      metered = same-truth one.metered other.metered metered.0 i;
      roaming = same-truth one.roaming other.roaming roaming.0 i;
      charging = same-truth one.charging other.charging charging.0 i;
      idle = same-truth one.idle other.idle idle.0 i;
      battery_low = same-truth one.battery_low other.battery_low low.0 i;
      storage_low = same-truth one.storage_low other.storage_low low.1 i;
    }

pub returns-then-eq : goal.returns-then-eq
returns-then-eq c = rw (same-conditions c.args.next.now c.self.inside.conditions (sym c.eq.ensures ∙ c.if-eq.true)) c.self.invariant
