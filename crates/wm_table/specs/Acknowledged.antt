-- Works that were acknowledged: their numbers stand in the reply to an enqueue.
use Rattle.std.specs.Prelude.{◌≡◌, ℕ, ◌==◌, ◌&&◌, Bool, false, not, List, [], ◌∷◌, pos}
use Rattle.std.specs.List.{list_any}
use Rattle.wm_collections.specs.Lists.{HasOne}
use Rattle.wm_keeper.specs.declared.row.Row.{Row}
use Rattle.wm_machine.specs.Step.{after}
use Rattle.wm_machine.specs.declared.event.Event.{Event}
use Rattle.wm_machine.specs.declared.state.State.{State}

-- whether a state has a work of this number
abbrev pub has_work : ℕ → State → Bool
has_work number s = list_any (λ work. work.seq == number) s.works

-- whether an event removes the work of this number
abbrev pub removes : ℕ → State → Event → Bool
removes number s e = has_work number s && not (has_work number (after s e))

-- none of these events, one after another from this state, removes it
abbrev pub NoneRemoves : ℕ → State → List Event → Type 0
NoneRemoves number s [] = Unit {0}
NoneRemoves number s (e ∷ log) = (removes number s e ≡ false) × NoneRemoves number (after s e) log

-- one of these rows is that of this number
abbrev pub HasRow : ℕ → List Row → Type 0
HasRow number rows = HasOne (λ row. row.seq ≡ pos number) rows
