-- What a crash may leave in the store of a run.
use Rattle.std.specs.Prelude.{Bool, List, Option, MatchBool}
use Rattle.wm_beginning.specs.Images.{UnbegunImages}
use Rattle.wm_ended.specs.declared.status.Status.{Status}
use Rattle.wm_keeper.specs.Store.{Store}
use Rattle.wm_keeper.specs.declared.row.Row.{Row}
use Rattle.wm_machine.specs.declared.command.Command.{Command}
use Rattle.wm_machine.specs.declared.event.Event.{Event}
use Rattle.wm_machine.specs.declared.state.Instance.{Instance}
use Rattle.wm_machine.specs.declared.state.State.{State}
use Rattle.wm_session.specs.Images.{EndImages}

-- What a crash leaves of a run over these lines that is over: the rows of its last state, or those of the state after the event that was being
-- committed; and where its table wasn't begun the rows held, or those of the opening that was being committed.
abbrev pub RunImages : Bool → Bool → Status → List Command → Option (List Row) → List Instance → State → List Event → Store → Type 0
RunImages began at_opening ended lines held instances last log store =
    MatchBool began (EndImages ended lines last log store) (UnbegunImages at_opening held instances store)
