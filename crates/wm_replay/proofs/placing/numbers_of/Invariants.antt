use Rattle.std.proofs.Common.{◌≡◌, take}
use Rattle.wm_machine.specs.Enqueued.{numbers_of}
use Rattle.wm_replay.proofs.placing.numbers_of.Given as goal

-- the numbers of the ids so far are there
abbrev pub invariant-loop-id : goal.invariant-loop-id
invariant-loop-id l = l.numbers ≡ numbers_of l.works (take l.id-index l.ids)
