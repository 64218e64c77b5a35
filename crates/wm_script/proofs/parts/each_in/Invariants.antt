-- The parts so far, before those of the items that are left, are all.
use Rattle.std.proofs.Common.{◌≡◌, drop}
use Rattle.serde_json.specs.View.{items_view}
use Rattle.wm_data.specs.DataRead.{item_list}
use Rattle.wm_script.specs.Onto.{onto}
use Rattle.wm_script.specs.Parts.{each_in}
use Rattle.wm_script.proofs.parts.each_in.Given as goal

abbrev pub invariant-loop-item : goal.invariant-loop-item
invariant-loop-item g l =
    onto l.all (each_in g.T.Part.reading (item_list (items_view (drop l.item-index l.items)))) ≡ each_in g.T.Part.reading (item_list (items_view l.items))
