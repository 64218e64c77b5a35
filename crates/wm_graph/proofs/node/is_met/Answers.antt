use Rattle.std.proofs.Common.{sym, ◌∙◌}
use Rattle.wm_graph.proofs.Starts.{done-found, done-none}
use Rattle.wm_graph.proofs.node.is_met.Goals as goal

pub returns-in-Some : goal.returns-in-Some
returns-in-Some c =
    c.is_done.ensures ∙ sym (done-found c.args.number c.in-Some.node.now c.args.nodes.now.entries c.requires (sym c.in-Some.ensures.value))

pub returns-in-None : goal.returns-in-None
returns-in-None c = sym (done-none c.args.nodes.now.entries c.args.number (sym c.in-None.ensures.value))
