use Rattle.wm_commands.proofs.LastPlans.{last-numbers}
use Rattle.wm_steps.proofs.Views.{reached-view}
use Rattle.wm_commands.proofs.naming.last_of.Goals as goal

pub returns-clause-numbers : goal.returns-clause-numbers
returns-clause-numbers c = last-numbers c.args.view.now.works c.args.name.now c.last_members.result.now (reached-view _ c.args.view.now _ c.view.view_is c.view.invariant).works.in_order c.last_members.ensures
