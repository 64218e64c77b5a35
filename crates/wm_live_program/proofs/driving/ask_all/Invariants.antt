use Rattle.std.proofs.Common.{◌≡◌, ◌+◌, ◌≤◌, ◌++◌, length}
use Rattle.std.specs.Vec.Iter.{into_iter_items}
use Rattle.wm_live_program.specs.Answered.{AreAnswered}
use Rattle.wm_live_program.proofs.driving.ask_all.Given as goal

-- those so far were answered, each by its line, and a clock was read at most once for each
abbrev pub invariant-asks : goal.invariant-asks
invariant-asks g l = record {
  left : l.yielded ++ into_iter_items l.ask-iterator ≡ l.fn.asks.items;
  counted : l.line ≡ length l.yielded;
  answered : AreAnswered 1 l.yielded (g.C.Clock.answers l.fn.clock) (g.C.Clock.answers l.clock) l.fn.live l.live;
  steady : (g.K.Keeper.store l.live.table.keeper).faults ≡ (g.K.Keeper.store l.fn.live.table.keeper).faults;
  pace : g.C.Clock.pace l.clock ≡ g.C.Clock.pace l.fn.clock;
  read : length (g.C.Clock.answers l.clock) ≤ length (g.C.Clock.answers l.fn.clock) + length l.yielded;
}
