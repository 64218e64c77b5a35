use Rattle.std.proofs.Common.{arith, subst, sym, ◌≡◌}
use Rattle.std.proofs.lemmas.Bool.Decides.{nat_tests}
use Rattle.wm_ready.specs.Entries.{is_later, NonePasses}
use Rattle.wm_ready.specs.Keys.{entries_of}
use Rattle.wm_ready.proofs.Entering.{none-later}
use Rattle.wm_ready.proofs.ready.Ready.wake.Goals as goal

pub returns-then-now-eq18446744073709551615 : goal.returns-then-now-eq18446744073709551615
returns-then-now-eq18446744073709551615 c =
    let last : c.args.now ≡ 18446744073709551615 = grind (arith, nat_tests, c.if-now-eq18446744073709551615.true) in
    rw (← c.self.view_is)
    (subst (λ now. NonePasses (entries_of c.self.inside.keys) (is_later now c.args.met c.args.busy.now)) (sym last)
    (none-later c.self.inside.keys c.args.met c.args.busy.now c.self.invariant.0))
