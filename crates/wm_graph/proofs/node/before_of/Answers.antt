use Rattle.std.proofs.Common.{[], Option, sym, ap, ◌∙◌}
use Rattle.std.specs.Option.{option_map_or}
use Rattle.wm_graph.proofs.Starts.{before-is}
use Rattle.wm_graph.specs.Kept.{Kept}
use Rattle.wm_graph.proofs.node.before_of.Goals as goal

pub returns-in-Some : goal.returns-in-Some
returns-in-Some c =
    c.prerequisites.ensures
    ∙ sym (before-is c.args.nodes.now.entries c.args.number
    ∙ ap (λ (kept : Option Kept). option_map_or (λ (kept : Kept). kept.before) kept []) (sym c.in-Some.ensures.value))

pub returns-in-None : goal.returns-in-None
returns-in-None c =
    sym (before-is c.args.nodes.now.entries c.args.number
    ∙ ap (λ (kept : Option Kept). option_map_or (λ (kept : Kept). kept.before) kept []) (sym c.in-None.ensures.value))
