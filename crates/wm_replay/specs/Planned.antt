-- What is planned for an enqueue under a unique name in a state.
use Rattle.std.specs.Prelude.{◌≡◌, ℕ, List, Option, Some, None}
use Rattle.wm_machine.specs.Enqueued.{plan_in}
use Rattle.wm_machine.specs.Group.{members_of}
use Rattle.wm_machine.specs.Plan.{mismatch}
use Rattle.wm_machine.specs.Updated.{applied, one_update_more}
use Rattle.wm_machine.specs.declared.command.UniqueName.{UniqueName}
use Rattle.wm_machine.specs.declared.record.Record.{Record}
use Rattle.wm_machine.specs.declared.reply.Refusal.TheVariants.{KindMismatch}
use Rattle.wm_machine.specs.declared.reply.Reply.{Reply}
use Rattle.wm_machine.specs.declared.reply.Reply.TheVariants as reply
use Rattle.wm_machine.specs.declared.state.State.{State}
use Rattle.wm_request.specs.declared.request.Node.{Node}
use Rattle.wm_unique.specs.Plans.{refused_kind}
use Rattle.wm_unique.specs.declared.plans.PlanFault.{PlanFault}
use Rattle.wm_unique.specs.declared.plans.PlanFault.TheVariants as fault

-- the id whose kind the policy of a name can't take, by the works that have the name
abbrev pub kind_refused_in : State → UniqueName → List Node → Option (List ℕ)
kind_refused_in s unique works = refused_kind (plan_in s unique) (mismatch unique.policy (members_of s.works unique.name) works)

-- a reply is the one to an update of a member, which is there
abbrev pub IsReplyOfUpdate : Option Record → Reply → Type 0
IsReplyOfUpdate None answer = ⊥
IsReplyOfUpdate (Some member) answer = answer ≡ reply.Updated (applied member.phase) (one_update_more member.generation)

-- a reply refuses the kind for which nothing is planned
abbrev pub IsReplyToFault : PlanFault → Reply → Type 0
IsReplyToFault (fault.KindMismatch id) answer = answer ≡ reply.Refused (KindMismatch id)
IsReplyToFault fault.Memory answer = ⊥
