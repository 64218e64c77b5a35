use Rattle.std.proofs.Common.{◌≡◌, ◌+◌, length, map, sum}
use Rattle.std.specs.List.{AllByRecursion}
use Rattle.wm_callers.specs.Closing.{FitsIn}
use Rattle.wm_callers.specs.Rule.{all_of, IsDeskSeat}
use Rattle.wm_callers.proofs.pass.gather.Given as goal

abbrev pub invariant-loop-pass : goal.invariant-loop-pass
invariant-loop-pass g l = record {
  seat : IsDeskSeat g.J.DeskMark.desk.board l.seat;
  all : all_of l.seat ≡ all_of l.fn.seat;
  fits : AllByRecursion (FitsIn (all_of l.fn.seat)) l.passes.items → AllByRecursion (FitsIn (all_of l.fn.seat)) l.fn.passes.items;
  made : l.made.parts + length l.passes.items ≡ length l.fn.passes.items;
  made_amount : l.made.amount + sum (map (λ pass. length pass.mine) l.passes.items) ≡ sum (map (λ pass. length pass.mine) l.fn.passes.items);
  met : l.met.parts + length l.passes.items ≡ length l.fn.passes.items;
  met_amount : l.met.amount + sum (map (λ pass. pass.units) l.passes.items) ≡ sum (map (λ pass. pass.units) l.fn.passes.items);
}

abbrev pub decreases-loop-pass : goal.decreases-loop-pass
decreases-loop-pass g l = goal.left-loop-pass g l
