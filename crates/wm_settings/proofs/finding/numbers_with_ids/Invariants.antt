use Rattle.std.proofs.Common.{filter, take}
use Rattle.std.specs.Str.{bytes_eq}
use Rattle.wm_machine.specs.Group.{numbers_in}
use Rattle.wm_settings.proofs.FoundNumbers.{IsFoundBy}
use Rattle.wm_settings.proofs.finding.numbers_with_ids.Given as goal

-- the numbers of the ids so far are there
abbrev pub invariant-loop-id : goal.invariant-loop-id
invariant-loop-id l =
    IsFoundBy (λ id. numbers_in (filter (λ work. bytes_eq id work.request.id) l.view.works)) (take l.id-index l.ids) l.numbers
