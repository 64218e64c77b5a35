-- The numbers so far and those of the items that are left are all.
use Rattle.std.proofs.Common.{◌≡◌, ◌++◌, drop, filter_map}
use Rattle.serde_json.specs.View.{items_view, view}
use Rattle.wm_audit_text.specs.Fields.{wholes_at}
use Rattle.wm_audit_text.proofs.fields.wholes_at.Given as goal
use Rattle.wm_data.specs.DataRead.{integer_of, item_list}

abbrev pub invariant-loop-item : goal.invariant-loop-item
invariant-loop-item l = l.wholes ++ filter_map integer_of (item_list (items_view (drop l.item-index l.item-items))) ≡ wholes_at l.fn.key (view l.fn.value)
