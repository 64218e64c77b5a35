-- The item that stops the reading is told of the whole list.
use Rattle.std.proofs.Common.{rules}
use Rattle.serde_json.specs.View.{items_view}
use Rattle.wm_data.specs.DataRead.{item_list}
use Rattle.wm_script.proofs.PartsLemmas.{item_stopped}
use Rattle.wm_script.specs.Parts.{each_in}
use Rattle.wm_script.proofs.parts.each_in.Goals as goal

pub returns-in_err-all-clause-err : goal.returns-in_err-all-clause-err
returns-in_err-all-clause-err g c =
    let stopped =
    item_stopped g.T.Part.reading c.args.items.now c.loop-item.item-index c.item-item.result
    (each_in g.T.Part.reading (item_list (items_view c.args.items.now))) c.loop-item.all c.loop-item-test.true c.item-item.is
    c.loop-item.invariant c.in_err-all.field-0.0 c.in_err-all.ensures.err in
    search rules
