use Rattle.std.proofs.Common.{◌≡◌, ◌++◌, map, drop}
use Rattle.json.specs.Tree.{items_tokens}
use Rattle.serde_json.specs.View.{items_of}
use Rattle.serde_json.specs.Written.{items_outline}
use Rattle.wm_data.specs.DataJson.{list_of}
use Rattle.wm_data.specs.Tokens.{tokens_of}
use Rattle.wm_data.proofs.element.write_list.Given as goal

-- with what is left, it is the list
abbrev pub invariant-loop-element : goal.invariant-loop-element
invariant-loop-element g l =
    (l.writer.tokens ++ items_tokens (items_outline (items_of (map g.T.Element.form (drop l.element-index l.element-items))))
    ≡ l.fn.writer.tokens ++ tokens_of (list_of g.T.Element.form l.element-items))
    × (l.writer.before ≡ l.fn.writer.before)
