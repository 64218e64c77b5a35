use Rattle.std.proofs.Common.{refl, ◌+◌}
use Rattle.wm_ready.specs.Keys.{entry_of, is_open}
use Rattle.wm_ready.specs.Entries.{is_later}
use Rattle.wm_ready.proofs.Entering.{first-entry, none-passes, open-later}
use Rattle.wm_ready.proofs.ready.moment_after.Goals as goal

pub returns-in-Some : goal.returns-in-Some
returns-in-Some c = (
  entry_of c.in-Some.key,
  first-entry _ (is_open (c.args.now + 1) 18446744073709551615 c.args.met c.args.busy.now) (is_later c.args.now c.args.met c.args.busy.now)
      (λ key there. open-later c.args.now c.args.met c.args.busy.now key (c.requires.keys key there).due) _ c.in-Some.ensures,
  refl,
)

pub returns-in-None : goal.returns-in-None
returns-in-None c =
    none-passes _ (is_open (c.args.now + 1) 18446744073709551615 c.args.met c.args.busy.now) (is_later c.args.now c.args.met c.args.busy.now)
    (λ key there. open-later c.args.now c.args.met c.args.busy.now key (c.requires.keys key there).due) c.in-None.ensures
