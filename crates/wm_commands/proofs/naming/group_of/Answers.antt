use Rattle.wm_commands.proofs.NamedPlans.{group-members, members-group}
use Rattle.wm_steps.proofs.Views.{reached-view}
use Rattle.wm_commands.proofs.naming.group_of.Goals as goal

pub returns-clause-numbers : goal.returns-clause-numbers
returns-clause-numbers c = members-group c.args.view.now.works c.args.name.now c.members.result.now (reached-view _ c.args.view.now _ c.view.view_is c.view.invariant).works.in_order c.members.ensures

pub returns-clause-members : goal.returns-clause-members
returns-clause-members c = group-members c.args.view.now.works c.args.name.now c.members.result.now (reached-view _ c.args.view.now _ c.view.view_is c.view.invariant).works.in_order c.members.ensures
