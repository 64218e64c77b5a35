use Rattle.std.proofs.Common.{None, take}
use Rattle.std.specs.List.{list_all}
use Rattle.wm_machine.specs.Input.{work_numbered}
use Rattle.wm_steps.specs.Readied.{is_settled, AreLeft}
use Rattle.wm_steps.proofs.readying.settle_removed.Given as goal

-- those so far are settled
abbrev pub invariant-loop-number : goal.invariant-loop-number
invariant-loop-number l = AreLeft (λ entry. list_all (λ number. is_settled l.classes l.graph (work_numbered number l.works) None entry) (take l.number-index l.numbers)) l.fn.ready l.ready
