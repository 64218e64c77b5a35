-- The roll of a table beside the runs of its state.
use Rattle.std.specs.Prelude.{List}
use Rattle.std.specs.List.{AllByRecursion}
use Rattle.wm_machine.specs.declared.state.Run.{Run}
use Rattle.wm_roll.specs.Parts.{IsListed}
use Rattle.wm_roll.specs.declared.part.Part.{Part}
use Rattle.wm_engine.specs.Parts.{part_of, AreOut}

-- the roll lists exactly these runs: each part is that of one, and the part of each is listed
pub record ListsExactly (runs : List Run) (roll : List Part) : Type 0 where
  pub of_runs : AreOut runs roll
  pub each : AllByRecursion (λ run. IsListed roll (part_of run)) runs
