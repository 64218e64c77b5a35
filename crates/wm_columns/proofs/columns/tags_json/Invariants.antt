use Rattle.serde_json.specs.Data.{string}
use Rattle.serde_json.specs.View.{view}
use Rattle.std.proofs.Common.{◌≡◌, map, take}
use Rattle.wm_columns.proofs.columns.tags_json.Given as goal

abbrev pub invariant-loop-tag : goal.invariant-loop-tag
invariant-loop-tag l = map view l.values.items ≡ map string (take l.tag-index l.tags)
