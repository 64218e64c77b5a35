-- What is planned for an enqueue under a unique name in a state.
use Rattle.std.specs.Prelude.{ℕ, List, Option}
use Rattle.wm_machine.specs.Enqueued.{plan_in}
use Rattle.wm_machine.specs.Group.{members_of}
use Rattle.wm_machine.specs.Plan.{mismatch}
use Rattle.wm_machine.specs.declared.command.UniqueName.{UniqueName}
use Rattle.wm_machine.specs.declared.state.State.{State}
use Rattle.wm_request.specs.declared.request.Node.{Node}
use Rattle.wm_unique.specs.Plans.{refused_kind}

-- the id whose kind the policy of a name can't take, by the works that have the name
abbrev pub kind_refused_in : State → UniqueName → List Node → Option (List ℕ)
kind_refused_in s unique works = refused_kind (plan_in s unique) (mismatch unique.policy (members_of s.works unique.name) works)
