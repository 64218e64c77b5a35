use Rattle.std.proofs.Common.{filter, take}
use Rattle.wm_machine.specs.Group.{numbers_in}
use Rattle.wm_machine.specs.Queried.{has_tag}
use Rattle.wm_settings.proofs.FoundNumbers.{IsFoundBy}
use Rattle.wm_settings.proofs.finding.numbers_with_tags.Given as goal

-- the numbers of the tags so far are there
abbrev pub invariant-loop-tag : goal.invariant-loop-tag
invariant-loop-tag l =
    IsFoundBy (λ tag. numbers_in (filter (λ work. has_tag work.request.tags tag) l.view.works)) (take l.tag-index l.tags) l.numbers
