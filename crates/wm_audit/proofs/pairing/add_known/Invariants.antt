use Rattle.std.proofs.Common.{◌≡◌, ◌++◌, map, take}
use Rattle.wm_audit.specs.Happened.{pair_with}
use Rattle.wm_machine.specs.Shown.{info_of}
use Rattle.wm_audit.proofs.pairing.add_known.Given as goal

-- those of the infos so far are added
abbrev pub invariant-loop-info : goal.invariant-loop-info
invariant-loop-info l = l.pairs ≡ l.fn.pairs ++ map (pair_with (map (info_of l.works) l.works)) (take l.info-index l.before)
