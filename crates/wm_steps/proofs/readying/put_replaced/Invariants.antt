use Rattle.std.proofs.Common.{take}
use Rattle.std.specs.List.{list_any}
use Rattle.wm_steps.specs.Readied.{is_waiting_as, ArePut}
use Rattle.wm_changes.specs.declared.change.Replacement.{Replacement}
use Rattle.wm_steps.proofs.readying.put_replaced.Given as goal

-- the entries of those so far that wait are there too
abbrev pub invariant-loop-replacement : goal.invariant-loop-replacement
invariant-loop-replacement l = ArePut (λ entry. list_any (λ (r : Replacement). is_waiting_as l.classes entry r.work) (take l.replacement-index l.replaced)) l.fn.ready l.ready
