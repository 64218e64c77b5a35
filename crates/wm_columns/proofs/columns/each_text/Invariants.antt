use Rattle.serde_json.specs.View.{items_view}
use Rattle.std.proofs.Common.{◌≡◌, ◌++◌, drop, option_map}
use Rattle.wm_columns.specs.Columns.{texts_of}
use Rattle.wm_columns.proofs.columns.each_text.Given as goal

abbrev pub invariant-loop-value : goal.invariant-loop-value
invariant-loop-value l = option_map (λ more. l.texts ++ more) (texts_of (items_view (drop l.value-index l.values))) ≡ texts_of (items_view l.values)
