use Rattle.std.proofs.Common.{◌≡◌, filter, take}
use Rattle.wm_machine.specs.Queried.{matches}
use Rattle.wm_settings.specs.Told.{infos_numbered}
use Rattle.wm_settings.proofs.answering.told_of.Given as goal

-- those of the numbers so far that match are told
abbrev pub invariant-loop-number : goal.invariant-loop-number
invariant-loop-number l = l.told ≡ filter (matches l.query) (infos_numbered l.view.works (take l.number-index l.numbers))
