use Rattle.std.proofs.Common.{◌≡◌, take}
use Rattle.wm_rows.proofs.reading.add_tags.Given as goal

-- the tags so far are added
abbrev pub invariant-loop-tag : goal.invariant-loop-tag
invariant-loop-tag l = l.builder ≡ record l.fn.builder { tags = take l.tag-index l.tags }
