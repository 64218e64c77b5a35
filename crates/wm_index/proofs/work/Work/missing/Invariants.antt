use Rattle.std.proofs.Common.{◌≡◌, filter, not, take}
use Rattle.wm_index.specs.Entries.{has_tag}
use Rattle.wm_index.proofs.work.Work.missing.Given as goal

abbrev pub invariant-loop-tag : goal.invariant-loop-tag
invariant-loop-tag l = l.missing.items ≡ filter (λ tag. not (has_tag l.self.tags tag)) (take l.tag-index l.tags)
