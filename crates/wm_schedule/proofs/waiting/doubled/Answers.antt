-- Past eleven doublings even the least delay is longer than the longest wait.
use Rattle.std.proofs.Common.{◌≤◌, ◌*◌, ◌^◌, sym, arith}
use Rattle.std.proofs.Math.Nat.{min-eq_right, pow-le-pow_right}
use Rattle.std.proofs.lemmas.Nat.{mul-le}
use Rattle.wm_schedule.proofs.waiting.doubled.Goals as goal

pub returns-then-times-ge-MAX_DOUBLINGS : goal.returns-then-times-ge-MAX_DOUBLINGS
returns-then-times-ge-MAX_DOUBLINGS c =
    let power : 2 ^ 11 ≤ 2 ^ c.args.times = pow-le-pow_right (omega arith) c.if-times-ge-MAX_DOUBLINGS.true in
    let long : 10000 * 2 ^ 11 ≤ c.args.delay * 2 ^ c.args.times = mul-le 10000 (2 ^ 11) c.args.delay (2 ^ c.args.times) c.requires.least power in
    sym (min-eq_right (omega (arith, long)))
