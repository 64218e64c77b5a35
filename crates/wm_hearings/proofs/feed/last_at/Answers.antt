use Rattle.std.proofs.Common.{Option, ◌∙◌, ap}
use Rattle.std.specs.Option.{option_map_or}
use Rattle.wm_hearings.proofs.LastOf.{slice_get-last}
use Rattle.wm_hearings.proofs.feed.last_at.Goals as goal
use Rattle.wm_hearings.specs.declared.hearing.Hearing.{Hearing}

pub returns-in-Some : goal.returns-in-Some
returns-in-Some c =
    ap (λ (found : Option Hearing). option_map_or (λ hearing. hearing.at) found 0)
    (c.in-Some.ensures.value ∙ slice_get-last c.args.given.now)
