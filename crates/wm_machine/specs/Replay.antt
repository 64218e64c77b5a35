-- What a log of events gives: the fold of the machine's steps.
use Rattle.std.specs.Prelude.{◌≡◌, List, [], ◌∷◌}
use Rattle.wm_machine.specs.Step.{Legal, after}
use Rattle.wm_machine.specs.declared.event.Event.{Event}
use Rattle.wm_machine.specs.declared.state.State.{State}

-- the events are steps, one after another, from the first state to the last
abbrev pub Replay : State → List Event → State → Type 0
Replay first [] last = last ≡ first
Replay first (e ∷ log) last = Legal first e × Replay (after first e) log last

-- the state that events give, one after another
abbrev pub state_after : State → List Event → State
state_after s [] = s
state_after s (e ∷ log) = state_after (after s e) log
