use Rattle.std.proofs.Common.{◌≡◌, false}
use Rattle.wm_pool.proofs.driving.serve.Given as goal

-- the works so far were spent, and no end was told
abbrev pub invariant-works : goal.invariant-works
invariant-works g l = record {
  idle : g.S.Shared.number l.share ≡ 0;
  going : g.S.Shared.is_ended l.share ≡ false;
  portion : g.S.Shared.portion l.share ≡ g.S.Shared.portion l.fn.share;
}
