use Rattle.std.proofs.Common.{◌≡◌, ◌++◌, map}
use Rattle.std.specs.Map.Iter.{deref}
use Rattle.wm_observe.specs.Compared.{pair_at}
use Rattle.wm_steps.specs.Numbers.{numbered}
use Rattle.wm_changes.specs.StepChanges.{changed_state}
use Rattle.wm_observe.proofs.comparing.add_old.Given as goal

-- those of the numbers so far are there
abbrev pub invariant-loop-number : goal.invariant-loop-number
invariant-loop-number l = record {
  split : map deref l.yielded ++ l.number-iterator ≡ l.initial.number-iterator;
  pairs : l.pairs
      ≡ l.fn.pairs ++ map (pair_at l.change l.view.works (changed_state l.change l.view).works) (numbered l.view.works (map deref l.yielded));
}
