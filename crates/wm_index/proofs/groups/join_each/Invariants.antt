use Rattle.std.proofs.Common.{take}
use Rattle.wm_index.specs.Entries.{has_tag}
use Rattle.wm_index.specs.Groups.{has, IsJoined}
use Rattle.wm_index.proofs.groups.join_each.Given as goal

abbrev pub invariant-loop-text : goal.invariant-loop-text
invariant-loop-text l = IsJoined (has_tag (take l.text-index l.texts)) l.seq (has l.initial.groups) (has l.groups)
