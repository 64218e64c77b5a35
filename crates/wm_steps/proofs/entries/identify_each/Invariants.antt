use Rattle.std.proofs.Common.{◌≡◌, drop}
use Rattle.wm_steps.specs.Entries.{with_identified, AreIdentifiable}
use Rattle.wm_steps.proofs.entries.identify_each.Given as goal

-- what is left makes of the entries so far what all makes of the entries, and can be given its ids
abbrev pub invariant-loop-work : goal.invariant-loop-work
invariant-loop-work l = record {
  entries : with_identified (drop l.work-index l.placed) l.index ≡ with_identified l.placed l.fn.index;
  left : AreIdentifiable (drop l.work-index l.placed) l.index;
}
