use Rattle.std.proofs.Common.{◌≡◌}
use Rattle.wm_cli.proofs.pool.PoolShared.next.Given as goal

-- no work was given yet, and no end told
abbrev pub invariant-waiting : goal.invariant-waiting
invariant-waiting g l = record {
  amount : l.part.share.amount ≡ l.fn.part.share.amount;
  parts : l.part.share.parts ≡ l.fn.part.share.parts;
  over : l.part.over ≡ l.fn.part.over;
}
