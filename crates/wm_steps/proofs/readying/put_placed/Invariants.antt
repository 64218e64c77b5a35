use Rattle.std.proofs.Common.{take}
use Rattle.std.specs.List.{list_any}
use Rattle.wm_steps.specs.Readied.{is_waiting_as, ArePut}
use Rattle.wm_steps.proofs.readying.put_placed.Given as goal

-- the entries of those so far that wait are there too
abbrev pub invariant-loop-work : goal.invariant-loop-work
invariant-loop-work l = ArePut (λ entry. list_any (is_waiting_as l.classes entry) (take l.work-index l.placed)) l.fn.ready l.ready
