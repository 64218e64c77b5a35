use Rattle.std.proofs.Common.{Some, slice_get, take}
use Rattle.std.specs.List.{list_all}
use Rattle.wm_steps.specs.Readied.{is_settled, AreLeft}
use Rattle.wm_changes.specs.declared.change.Replacement.{Replacement}
use Rattle.wm_steps.proofs.readying.put_back.Given as goal

-- those so far are put back
abbrev pub invariant-loop-replacement : goal.invariant-loop-replacement
invariant-loop-replacement l = AreLeft (λ entry. list_all (λ (r : Replacement). is_settled l.classes l.graph (Some r.work) (slice_get l.works r.index) entry) (take l.replacement-index l.replaced)) l.fn.ready l.ready
