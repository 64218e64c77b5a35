use Rattle.std.proofs.Common.{◌≡◌, ◌+◌, All, IsNone, map, sum}
use Rattle.wm_cli.proofs.pool.cut.Given as goal

-- each part so far has one of the ledger's parts, no work and no end
abbrev pub invariant-loop-i : goal.invariant-loop-i
invariant-loop-i g l = record {
  left : l.all.parts + l._i ≡ l.threads;
  amount : l.all.amount ≡ 0;
  cut : sum (map (λ part. part.share.parts) l.parts.items) ≡ l._i;
  idle : All (λ part. part.share.amount ≡ 0) l.parts.items;
  going : All (λ part. IsNone part.over) l.parts.items;
}
