use Rattle.std.proofs.Common.{take}
use Rattle.wm_data.proofs.ItemLists.{AreRead}
use Rattle.wm_data.proofs.element.list_from_json.Given as goal

abbrev pub invariant-loop-value : goal.invariant-loop-value
invariant-loop-value g l = AreRead g.T.Element.reading (take l.value-index l.value-items) l.elements
