use Rattle.std.proofs.Common.{◌≡◌, map, take}
use Rattle.serde_json.specs.View.{view}
use Rattle.wm_texts.specs.Texts.{count}
use Rattle.wm_texts.proofs.texts.numbers_value.Given as goal

abbrev pub invariant-loop-work : goal.invariant-loop-work
invariant-loop-work l = map view l.values.items ≡ map count (take l.work-index l.works)
