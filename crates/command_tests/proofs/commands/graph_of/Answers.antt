use Rattle.std.proofs.Common.{◌<◌, List, sym, ◌∙◌, ap, map, subst, take_all}
use Rattle.std.specs.List.{AllByRecursion}
use Rattle.wm_graph.specs.Nodes.{NodeFields}
use Rattle.wm_machine.proofs.Runnings.{WorksAscend-in_order}
use Rattle.command_tests.proofs.WaitingStates.{lone_below, lone_more, lone_node, lone_nodes}
use Rattle.command_tests.proofs.commands.graph_of.Goals as goal

pub add-requires-clause-above : goal.add-requires-clause-above
add-requires-clause-above c =
    let works = c.args.works.now in
    let work = c.work-item.result in
    subst (λ (nodes : List NodeFields). AllByRecursion (λ node. node.seq < work.seq) nodes) (sym c.loop-work.invariant)
    (lone_below works c.loop-work.work-index work (WorksAscend-in_order works c.requires.in_order) c.loop-work-test.true c.work-item.is)

pub loop-work-preserved : goal.loop-work-preserved
loop-work-preserved c =
    let works = c.args.works.now in
    let work = c.work-item.result in
    let i = c.loop-work.work-index in
    c.in_ok-add.ensures.ok ∙ rw (c.loop-work.invariant, c.is_succeeded.ensures) (lone_more works i work c.loop-work-test.true c.work-item.is)

pub returns : goal.returns
returns c =
    let works = c.args.works.now in
    c.loop-work.invariant ∙ ap (map lone_node) (take_all c.loop-work.work-index works c.loop-work-test.false) ∙ lone_nodes works c.requires
