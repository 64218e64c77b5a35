use Rattle.std.proofs.Common.{◌≡◌, take}
use Rattle.wm_changes.specs.StepChanges.{seqs_of}
use Rattle.wm_commands.proofs.placing.seqs_of.Given as goal

-- the numbers of the works so far are there
abbrev pub invariant-loop-work : goal.invariant-loop-work
invariant-loop-work l = l.numbers ≡ seqs_of (take l.work-index l.works)
