use Rattle.std.proofs.Common.{◌≡◌, map, take}
use Rattle.serde_json.specs.View.{view}
use Rattle.wm_audit_text.proofs.stored.wholes_value.Given as goal
use Rattle.wm_data.specs.DataJson.{whole}

-- the numbers so far
abbrev pub invariant-loop-whole : goal.invariant-loop-whole
invariant-loop-whole l = map view l.values.items ≡ map whole (take l.whole-index l.wholes)
