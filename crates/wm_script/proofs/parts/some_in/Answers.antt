-- Where 1 to 1,000 items are read, there is one.
use Rattle.std.proofs.Common.{◌≡◌, true, rules}
use Rattle.std.specs.Prelude.{length}
use Rattle.serde_json.specs.View.{items_view}
use Rattle.wm_data.specs.DataRead.{item_list}
use Rattle.wm_script.proofs.PartsLemmas.{count_items, some_read}
use Rattle.wm_script.specs.Parts.{is_count}
use Rattle.wm_script.proofs.parts.some_in.Goals as goal

pub returns-then-is_count-clause-some : goal.returns-then-is_count-clause-some
returns-then-is_count-clause-some g c =
    let items = c.in_ok-items.items.now in
    let counted : is_count (length items) ≡ true = search rules in
    some_read g.T.Part.reading (item_list (items_view items)) c.each_in.result (rw (count_items items) counted) c.each_in.ensures.ok
