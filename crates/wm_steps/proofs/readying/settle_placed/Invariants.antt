use Rattle.std.proofs.Common.{Some, None, take}
use Rattle.std.specs.List.{list_all}
use Rattle.wm_machine.specs.declared.record.Record.{Record}
use Rattle.wm_steps.specs.Readied.{is_settled, AreLeft}
use Rattle.wm_steps.proofs.readying.settle_placed.Given as goal

-- those so far are settled
abbrev pub invariant-loop-work : goal.invariant-loop-work
invariant-loop-work l = AreLeft (λ entry. list_all (λ (work : Record). is_settled l.classes l.graph None (Some work) entry) (take l.work-index l.placed)) l.fn.ready l.ready
