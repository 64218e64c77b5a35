use Rattle.std.proofs.Common.{◌≡◌, map, take}
use Rattle.serde_json.specs.View.{view}
use Rattle.wm_audit_text.specs.Headers.{hand_json}
use Rattle.wm_audit_text.proofs.headers.hands_value.Given as goal

-- the hands so far
abbrev pub invariant-loop-hand : goal.invariant-loop-hand
invariant-loop-hand l = map view l.values.items ≡ map hand_json (take l.hand-index l.hands)
