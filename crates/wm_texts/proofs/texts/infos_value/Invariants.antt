use Rattle.std.proofs.Common.{◌≡◌, map, take}
use Rattle.serde_json.specs.View.{view}
use Rattle.wm_texts.specs.Texts.{info_json}
use Rattle.wm_texts.proofs.texts.infos_value.Given as goal

abbrev pub invariant-loop-info : goal.invariant-loop-info
invariant-loop-info l = map view l.values.items ≡ map info_json (take l.info-index l.works)
