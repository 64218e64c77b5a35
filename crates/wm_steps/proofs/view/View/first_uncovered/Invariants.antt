use Rattle.std.proofs.Common.{◌≡◌, true, drop}
use Rattle.std.specs.List.{AllByRecursion}
use Rattle.wm_collections.specs.Lists.{is_among}
use Rattle.wm_machine.specs.Group.{leaves_of, members_of}
use Rattle.wm_steps.proofs.view.View.first_uncovered.Given as goal

-- each leaf is among those from here on
abbrev pub invariant-loop-number : goal.invariant-loop-number
invariant-loop-number l =
    AllByRecursion (λ leaf. is_among (drop l.number-index l.last) leaf.seq ≡ true) (leaves_of (members_of l.self.works l.name))
