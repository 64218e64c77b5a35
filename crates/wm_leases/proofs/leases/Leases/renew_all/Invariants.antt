use Rattle.std.proofs.Common.{◌≡◌}
use Rattle.std.specs.Vec.Iter.{into_iter_items}
use Rattle.wm_leases.specs.Leases.{renewed, runs_of}
use Rattle.wm_leases.proofs.Lists.{changed_each}
use Rattle.wm_leases.proofs.leases.Leases.renew_all.Given as goal

-- to renew those that are left makes of the leases what to renew all makes of those before
abbrev pub invariant-loop-run : goal.invariant-loop-run
invariant-loop-run l = changed_each (renewed l.end) (into_iter_items l.run-iterator) l.self ≡ changed_each (renewed l.end) (runs_of l.fn.self) l.fn.self
