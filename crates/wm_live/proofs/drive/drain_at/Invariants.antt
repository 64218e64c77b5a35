use Rattle.std.proofs.Common.{◌≡◌}
use Rattle.wm_live.proofs.drive.drain_at.Given as goal
use Rattle.wm_live.specs.Drained.{HasDrained}
use Rattle.wm_live.specs.Rest.{IsAtRest}
use Rattle.wm_machine.specs.Waiting.{left_to_drain}

-- the stand is at rest again after each start
abbrev pub invariant-starts : goal.invariant-starts
invariant-starts g l = record {
  rest : IsAtRest g.B.Worker.kind_of l.stand;
  drained : HasDrained l.fn.stand l.stand;
  same : (g.K.Keeper.store l.stand.table.keeper).faults ≡ (g.K.Keeper.store l.fn.stand.table.keeper).faults;
}

abbrev pub decreases-starts : goal.decreases-starts
decreases-starts g l = left_to_drain l.stand.table.state
