use Rattle.std.proofs.Common.{◌≡◌, ◌++◌, filter, map, nat_le, take}
use Rattle.wm_audit.specs.Happened.{new_pair}
use Rattle.wm_machine.specs.Shown.{info_of}
use Rattle.wm_machine.specs.declared.reply.WorkInfo.{WorkInfo}
use Rattle.wm_audit.proofs.pairing.add_new.Given as goal

-- those of the works so far that are new are added
abbrev pub invariant-loop-work : goal.invariant-loop-work
invariant-loop-work l =
    l.pairs ≡ l.fn.pairs ++ map new_pair (filter (λ (info : WorkInfo). nat_le l.next info.seq) (map (info_of l.works) (take l.work-index l.works)))
