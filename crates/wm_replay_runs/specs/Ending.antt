-- The ends of a run.
use Rattle.wm_machine.specs.declared.event.End.{End}
use Rattle.wm_machine.specs.declared.event.End.TheVariants.{Retry}

-- it isn't to be tried again
abbrev pub IsFinal : End → Type 0
IsFinal Retry = ⊥
IsFinal _ = Unit {0}
