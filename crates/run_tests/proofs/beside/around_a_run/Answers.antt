use Rattle.std.proofs.Common.{[], ◌∷◌, ◌++◌, List, ◌∙◌, ap}
use Rattle.run_tests.proofs.Fronts.{front-roll, only-part}
use Rattle.wm_roll.specs.declared.part.Part.{Part}
use Rattle.wm_engine.specs.Parts.{ticket_part}
use Rattle.run_tests.proofs.beside.around_a_run.Goals as goal

pub drive_once-requires-clause-alone : goal.drive_once-requires-clause-alone
drive_once-requires-clause-alone g c =
    let ticket = c.in-Run.ticket in
    only-part ticket _
    (front-roll g.K.Keeper.store g.B.Worker.kind_of _ c.claim.new.self c.front_step-beside.new.self c.front_step-beside.ensures
    ∙ c.in-Run.ensures.roll ∙ ap (λ (roll : List Part). roll ++ ticket_part ticket ∷ []) c.requires)

pub returns-in-Run : goal.returns-in-Run
returns-in-Run g c =
    front-roll g.K.Keeper.store g.B.Worker.kind_of _ c.drive_once.new.book c.front_step.new.self c.front_step.ensures ∙ c.drive_once.ensures
