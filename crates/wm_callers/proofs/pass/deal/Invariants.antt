use Rattle.std.proofs.Common.{◌≡◌, ◌+◌, ◌≤◌, vec_len, vec_capacity}
use Rattle.wm_callers.specs.Closing.{fresh_passes}
use Rattle.wm_callers.specs.Rule.{all_of, IsDeskSeat}
use Rattle.wm_callers.proofs.pass.deal.Given as goal

abbrev pub invariant-loop-number : goal.invariant-loop-number
invariant-loop-number g l = record {
  items : l.passes.items ≡ fresh_passes l.number;
  count : vec_len l.passes ≡ l.number;
  room : l.callers ≤ vec_capacity l.passes;
  seat : IsDeskSeat g.J.DeskMark.desk.board l.seat;
  all : all_of l.seat ≡ all_of l.fn.seat;
  made : l.made.parts + l.number ≡ l.callers;
  made_amount : l.made.amount ≡ 0;
  met : l.met.parts + l.number ≡ l.callers;
  met_amount : l.met.amount ≡ 0;
}
