-- What a plan by the numbers of works says of the plan that it is of.
use Rattle.std.proofs.Common.{◌≡◌, ℕ, List, Option, Some, None, option_map, ap}
use Rattle.wm_machine.specs.Plan.{updating}
use Rattle.wm_machine.specs.declared.record.Record.{Record}
use Rattle.wm_unique.specs.Plans.{plan_fields, update_fields}

-- an unfinished member is updated
pub updates_found : (found : Option Record) (members : List Record) (number : ℕ) → Some number ≡ option_map (λ (work : Record). work.seq) found
    → update_fields number ≡ plan_fields (updating found members)
updates_found None members number has = absurd (cc)
updates_found (Some member) members number has = let same : number ≡ member.seq = cc in ap update_fields same
