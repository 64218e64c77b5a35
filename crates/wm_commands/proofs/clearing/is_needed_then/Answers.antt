use Rattle.std.proofs.Common.{◌≡◌, ◌∙◌, ap}
use Rattle.std.specs.List.{list_any}
use Rattle.wm_commands.proofs.ClearedNumbers.{needed-dependents}
use Rattle.wm_commands.specs.Cleared.{phase_then}
use Rattle.wm_graph.specs.Descendants.{dependents}
use Rattle.wm_machine.specs.Closed.{is_open}
use Rattle.wm_machine.specs.declared.record.Record.{Record}
use Rattle.wm_steps.proofs.Views.{reached-view}
use Rattle.wm_changes.specs.Nodes.{nodes_of}
use Rattle.wm_unique.specs.Plans.{numbered_passes}
use Rattle.wm_commands.proofs.clearing.is_needed_then.Goals as goal

pub returns : goal.returns
returns c =
    let s = c.args.view.now in
    let cancelled = c.args.cancelled.now in
    let number = c.args.number in
    let test = λ (work : Record). is_open (phase_then cancelled work) in
    let order = (reached-view _ s _ c.view.view_is c.view.invariant).works.in_order in
    let numbers : c.deref.result.now ≡ dependents (nodes_of s.works) number =
    c.deref.ensures.value ∙ c.in_ok-dependents.ensures in
    c.any_open_then.ensures ∙ ap (list_any (numbered_passes test s.works)) numbers ∙ needed-dependents cancelled s.works number order c.requires
