use Rattle.std.proofs.Common.{◌≡◌, ◌++◌, filter, map, take}
use Rattle.std.specs.Str.{bytes_eq}
use Rattle.wm_machine.specs.declared.record.Record.{Record}
use Rattle.wm_replay.proofs.placing.add_with_id.Given as goal

-- the numbers of those so far that have the id are added
abbrev pub invariant-loop-work : goal.invariant-loop-work
invariant-loop-work l =
    l.numbers ≡ l.fn.numbers ++ map (λ (work : Record). work.seq) (filter (λ (work : Record). bytes_eq work.request.id l.id) (take l.work-index l.works))
