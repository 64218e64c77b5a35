use Rattle.std.proofs.Common.{◌≡◌, ◌+◌, All, map, sum}
use Rattle.wm_cli.proofs.pool.gather.Given as goal

-- what is together and what is still apart are the whole, and none of it has a work
abbrev pub invariant-loop-part : goal.invariant-loop-part
invariant-loop-part g l = record {
  whole : l.all.parts + sum (map (λ part. part.share.parts) l.parts.items) ≡ sum (map (λ part. part.share.parts) l.fn.parts.items);
  amount : l.all.amount ≡ 0;
  idle : All (λ part. part.share.amount ≡ 0) l.parts.items;
}

abbrev pub decreases-loop-part : goal.decreases-loop-part
decreases-loop-part g l = goal.left-loop-part g l
