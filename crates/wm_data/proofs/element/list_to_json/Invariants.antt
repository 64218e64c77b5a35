use Rattle.std.proofs.Common.{◌≡◌, map, take}
use Rattle.serde_json.specs.View.{view}
use Rattle.wm_data.proofs.element.list_to_json.Given as goal

-- the elements so far
abbrev pub invariant-loop-element : goal.invariant-loop-element
invariant-loop-element g l = map view l.values.items ≡ map g.T.Element.form (take l.element-index l.element-items)
