use Rattle.std.proofs.Common.{◌≡◌, ◌++◌, drop, length}
use Rattle.wm_commands.specs.Cleared.{cleared_state}
use Rattle.wm_commands.specs.Placed.{placed_records, with_placed}
use Rattle.wm_commands.proofs.placing.placed_records.Given as goal

-- the works so far are placed, and those that are left come after them
abbrev pub invariant-loop-work : goal.invariant-loop-work
invariant-loop-work l = record {
  count : length l.placed ≡ l.work-index;
  done : l.placed ++ placed_records (with_placed (cleared_state l.clearing l.view) l.placed) l.name l.after (drop l.work-index l.works)
      ≡ placed_records (cleared_state l.clearing l.view) l.name l.after l.works;
}
