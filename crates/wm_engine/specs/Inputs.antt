-- The inputs of one run, by which whoever holds a part of the run knows what it is a part of.
use Rattle.std.specs.Prelude.{ℕ, true, List, [], Option, None}
use Rattle.atomic_table.specs.Seated.{TableId}
use Rattle.wm_keeper.specs.Store.{Store}
use Rattle.wm_keeper.specs.declared.row.Row.{Row}
use Rattle.wm_machine.specs.declared.command.Command.{Command}
use Rattle.wm_machine.specs.declared.state.Instance.{Instance}

-- the rows that its store had, and what its keeper showed once they were loaded; the instances of its workers; its lines; the bytes that its sink
-- had been given, where they are told, and how many faults it had met; and which roll lists the runs that are out
pub record Inputs : Type 1 where
  pub rows : List Row
  pub store : Store
  pub instances : List Instance
  pub lines : List Command
  pub written : Option (List ℕ)
  pub sink_faults : ℕ
  pub roll : TableId

-- a roll that there isn't
abbrev pub no_roll : TableId
no_roll = record { words = 0; slots = 0; views_name = 0; atom = 0; block = 0; offset = 0; slot_names = [] }

-- a run without anything
abbrev pub no_inputs : Inputs
no_inputs = record {
  rows = [];
  store = record { rows = None; images = λ image. ⊥; name = None; faults = 0; is_lost = true };
  instances = [];
  lines = [];
  written = None;
  sink_faults = 0;
  roll = no_roll;
}
