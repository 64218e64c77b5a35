use Rattle.std.proofs.Common.{◌≡◌, ◌++◌, map, take}
use Rattle.wm_observe.specs.Compared.{new_pair}
use Rattle.wm_changes.specs.StepChanges.{changed_state}
use Rattle.wm_observe.proofs.comparing.add_new.Given as goal

-- those so far are there
abbrev pub invariant-loop-work : goal.invariant-loop-work
invariant-loop-work l = l.pairs ≡ l.fn.pairs ++ map (new_pair (changed_state l.change l.view).works) (take l.work-index l.placed)
