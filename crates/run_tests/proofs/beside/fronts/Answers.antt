use Rattle.std.proofs.Common.{◌∙◌}
use Rattle.run_tests.proofs.Fronts.{front-roll}
use Rattle.run_tests.proofs.beside.fronts.Goals as goal

pub around_a_run-beside-requires : goal.around_a_run-beside-requires
around_a_run-beside-requires g c =
    front-roll g.K.Keeper.store g.B.Worker.kind_of _ c.args.book c.front_step-enqueued.new.self c.front_step-enqueued.ensures ∙ c.requires.begins.none_out
