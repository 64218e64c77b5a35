-- The hands so far and those that are left are all.
use Rattle.std.proofs.Common.{◌≡◌, ◌++◌, drop}
use Rattle.serde_json.specs.View.{items_view}
use Rattle.wm_audit_text.specs.Headers.{hands_from}
use Rattle.wm_audit_text.proofs.headers.hands_of.Given as goal
use Rattle.wm_data.specs.DataRead.{item_list}

abbrev pub invariant-loop-item : goal.invariant-loop-item
invariant-loop-item l = record {
  number : l.number ≡ l.item-index;
  left : l.hands ++ hands_from l.number (item_list (items_view (drop l.item-index l.items))) ≡ hands_from 0 (item_list (items_view l.items));
}
