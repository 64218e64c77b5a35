use Rattle.std.proofs.Common.{take}
use Rattle.wm_machine.specs.Group.{members_of, numbers_in}
use Rattle.wm_settings.proofs.FoundNumbers.{IsFoundBy}
use Rattle.wm_settings.proofs.finding.numbers_with_names.Given as goal

-- the numbers of the names so far are there
abbrev pub invariant-loop-name : goal.invariant-loop-name
invariant-loop-name l = IsFoundBy (λ name. numbers_in (members_of l.view.works name)) (take l.name-index l.names) l.numbers
