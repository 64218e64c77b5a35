use Rattle.std.proofs.Common.{rules}
use Rattle.wm_steps.proofs.Marks.{unmarked}
use Rattle.wm_steps.proofs.view.View.new.Goals as goal

pub invariant_of-result : goal.invariant_of-result
invariant_of-result c = record {
  valid = search rules;
  graph_is = search rules;
  entries_are = search rules;
  startable_are = search rules;
  covered = unmarked c.in_ok-state-2.state c.new.result c.new.ensures;
}
