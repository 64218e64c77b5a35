use Rattle.std.proofs.Common.{◌≡◌, map, take}
use Rattle.wm_machine.specs.Shown.{info_of}
use Rattle.wm_audit.proofs.pairing.infos.Given as goal

-- those of the works so far are there
abbrev pub invariant-loop-work : goal.invariant-loop-work
invariant-loop-work l = l.infos ≡ map (info_of l.works) (take l.work-index l.works)
