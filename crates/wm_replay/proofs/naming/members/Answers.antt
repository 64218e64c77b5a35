use Rattle.std.proofs.lemmas.Result.{IfOk-weaker}
use Rattle.wm_replay.proofs.NamedPlans.{group-members, members-group}
use Rattle.wm_replay.proofs.naming.members.Goals as goal

pub returns-clause-numbers : goal.returns-clause-numbers
returns-clause-numbers c =
    IfOk-weaker c.numbers_of_name.result _ _ (λ group is. members-group c.args.works.now c.args.name.now group c.requires is) c.numbers_of_name.ensures

pub returns-clause-members : goal.returns-clause-members
returns-clause-members c =
    IfOk-weaker c.numbers_of_name.result _ _ (λ group is. group-members c.args.works.now c.args.name.now group c.requires is) c.numbers_of_name.ensures
