use Rattle.std.proofs.Common.{◌≡◌, List, ◌-◌, length, slice_get, ◌∙◌, ap}
use Rattle.wm_machine.specs.declared.event.Event.{Event}
use Rattle.wm_table.proofs.TableSteps.{slice_get-last}
use Rattle.wm_collections.specs.Lists.{last_of}
use Rattle.wm_table.proofs.table.Table.last_event.Goals as goal

pub returns-clause-last : goal.returns-clause-last
returns-clause-last g c =
    let log : List Event = c.self.inside.log.items in
    let log_is : c.self.inside.log.items ≡ c.args.self.now.log = cc in
    c.last.ensures.value ∙ ap (λ (log : List Event). slice_get log (length log - 1)) c.as_slice.ensures.value ∙ slice_get-last log ∙ ap
    (λ (log : List Event). last_of log) log_is
