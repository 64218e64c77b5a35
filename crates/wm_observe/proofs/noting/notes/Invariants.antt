use Rattle.std.proofs.Common.{◌≡◌, ◌+◌, ◌++◌, drop}
use Rattle.wm_observe.specs.Notes.{notes, notes_from}
use Rattle.wm_observe.proofs.noting.notes.Given as goal

-- what the observers so far are told, and the rest
abbrev pub invariant-loop-query : goal.invariant-loop-query
invariant-loop-query l =
    (l.observer ≡ l.query-index + 1) × (l.told ++ notes_from l.observer (drop l.query-index l.observers) l.pairs ≡ notes l.observers l.pairs)
