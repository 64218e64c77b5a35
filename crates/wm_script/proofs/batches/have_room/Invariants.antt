-- The room that is left and the items so far are 1,000 together.
use Rattle.std.proofs.Common.{◌≡◌, ◌+◌, ◌≤◌, drop}
use Rattle.serde_json.specs.View.{items_view}
use Rattle.wm_data.specs.DataRead.{item_list}
use Rattle.wm_script.specs.Batches.{total}
use Rattle.wm_script.proofs.batches.have_room.Given as goal

abbrev pub invariant-loop-item : goal.invariant-loop-item
invariant-loop-item l = record {
  within : l.room ≤ 1000;
  left : total (item_list (items_view (drop l.item-index l.items))) + 1000 ≡ total (item_list (items_view l.items)) + l.room;
}
