use Rattle.std.proofs.Common.{◌≡◌, ◌≤◌, true, false, length, rules}
use Rattle.wm_request.proofs.Limits.{IsWithin-building}
use Rattle.wm_request.specs.Building.{has_long_delay, is_short}
use Rattle.wm_request.proofs.builder.Builder.build.Goals as goal

pub invariant_of-result : goal.invariant_of-result
invariant_of-result c =
    let short : is_short c.self.inside.class ≡ true = search rules in
    let few : length c.args.self.tags ≤ 32 = search rules in
    let delays : has_long_delay c.args.self ≡ false = search rules in
    search (rules, IsWithin-building c.args.self)
