-- What the types of an event and of a row keep of their numbers and their Data.
use Rattle.std.specs.Prelude.{ℤ, ◌^◌, ◌<◌, List, [], ◌∷◌, Some, FitsSigned}
use Rattle.std.specs.Int.{w64}
use Rattle.std.specs.List.{AllByRecursion}
use Rattle.wm_data.specs.Size.{IsData}
use Rattle.wm_keeper.specs.declared.row.Row.{Row}
use Rattle.wm_machine.specs.declared.event.End.{End}
use Rattle.wm_machine.specs.declared.event.End.TheVariants.{Success, Failure, Retry}
use Rattle.wm_machine.specs.declared.event.Event.{Event}
use Rattle.wm_machine.specs.declared.event.Event.TheVariants as event

abbrev pub IsEndInRange : End → Type 0
IsEndInRange (Success output) = IsData output
IsEndInRange (Failure output) = IsData output
IsEndInRange Retry = Unit {0}

abbrev pub IsInRange : Event → Type 0
IsInRange (event.Command line asked reply) = line < 2 ^ 32
IsInRange (event.Start run seq instance input) = (instance < 2 ^ 32) × IsData input
IsInRange (event.Turn run (Some progress)) = IsData progress
IsInRange (event.Finish run end) = IsEndInRange end
IsInRange _ = Unit {0}

-- the numbers of a row, one after another
abbrev pub numbers_of : Row → List ℤ
numbers_of row =
    row.version ∷ row.seq ∷ row.kind ∷ row.period ∷ row.flex ∷ row.delay ∷ row.policy ∷ row.wait ∷ row.merger ∷ row.network ∷ row.flags
    ∷ row.phase ∷ row.attempt ∷ row.backoff_n ∷ row.runs ∷ row.generation ∷ row.enqueued_at ∷ row.next_at ∷ row.keep_for ∷ row.finished_at ∷ []

pub record IsRowInRange (row : Row) : Type 0 where
  pub numbers : AllByRecursion (FitsSigned w64) (numbers_of row)
  pub prior : AllByRecursion (FitsSigned w64) row.prior
