use Rattle.std.proofs.Common.{◌≡◌, filter, take}
use Rattle.wm_machine.specs.Queried.{matches}
use Rattle.wm_query.proofs.queries.answer.Given as goal

-- those so far that match are there
abbrev pub invariant-loop-info : goal.invariant-loop-info
invariant-loop-info l = l.kept ≡ filter (matches l.query) (take l.info-index l.infos)
