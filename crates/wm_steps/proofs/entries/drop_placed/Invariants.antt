use Rattle.std.proofs.Common.{◌≡◌, drop}
use Rattle.wm_steps.specs.Entries.{without_entries}
use Rattle.wm_changes.specs.StepChanges.{seqs_of}
use Rattle.wm_steps.proofs.entries.drop_placed.Given as goal

-- what is left makes of the entries so far what all makes of the entries
abbrev pub invariant-loop-work : goal.invariant-loop-work
invariant-loop-work l = without_entries (seqs_of (drop l.work-index l.placed)) l.index ≡ without_entries (seqs_of l.placed) l.fn.index
