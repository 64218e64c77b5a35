use Rattle.std.proofs.Common.{◌≡◌}
use Rattle.wm_pool.proofs.driving.spend.Given as goal

-- the turns so far gave the work back, so the thread holds as many as before
abbrev pub invariant-turns : goal.invariant-turns
invariant-turns g l = record {
  number : g.S.Shared.number l.share ≡ g.S.Shared.number l.fn.share;
  ended : g.S.Shared.is_ended l.share ≡ g.S.Shared.is_ended l.fn.share;
  portion : g.S.Shared.portion l.share ≡ g.S.Shared.portion l.fn.share;
}
