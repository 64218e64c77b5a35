use Rattle.std.proofs.Common.{◌≡◌, ◌-◌, ◌≤◌}
use Rattle.wm_live.proofs.drive.take_turns.Given as goal
use Rattle.wm_live.specs.Drained.{HasDrained}
use Rattle.wm_live.specs.Rest.{IsUnderWay}
use Rattle.wm_machine.specs.Waiting.{left_to_drain}

-- the run is under way, and has been so from the first turn on
abbrev pub invariant-turns : goal.invariant-turns
invariant-turns g l = record {
  under_way : IsUnderWay g.B.Worker.kind_of l.ticket l.stand;
  number : l.seat.number ≡ l.ticket.instance;
  kind : g.B.Worker.kind_of l.seat.worker ≡ l.ticket.kind;
  same_run : l.ticket.task.run ≡ l.fn.ticket.task.run;
  drained : HasDrained l.fn.stand l.stand;
  no_more : left_to_drain l.stand.table.state ≤ left_to_drain l.fn.stand.table.state;
  same : (g.K.Keeper.store l.stand.table.keeper).faults ≡ (g.K.Keeper.store l.fn.stand.table.keeper).faults;
}

-- the turns left
abbrev pub decreases-turns : goal.decreases-turns
decreases-turns g l = 1000 - l.ticket.k
