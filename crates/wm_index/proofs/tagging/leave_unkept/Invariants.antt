use Rattle.std.proofs.Common.{take, not, ◌&&◌}
use Rattle.wm_index.specs.Entries.{has_tag}
use Rattle.wm_index.specs.Groups.{has, IsParted}
use Rattle.wm_index.proofs.tagging.leave_unkept.Given as goal

abbrev pub invariant-loop-tag : goal.invariant-loop-tag
invariant-loop-tag l = IsParted (λ tag. has_tag (take l.tag-index l.own) tag && not (has_tag l.tags tag)) l.seq (has l.initial.groups) (has l.groups)
