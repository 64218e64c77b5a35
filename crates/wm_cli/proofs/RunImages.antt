-- What a crash leaves of a run whose store wasn't opened.
use Rattle.std.proofs.Common.{◌≡◌, Bool, false, List}
use Rattle.wm_beginning.proofs.Images.{leaves-held}
use Rattle.wm_beginning.specs.Images.{IsHeldAlone}
use Rattle.wm_cli.specs.Images.{RunImages}
use Rattle.wm_ended.specs.declared.status.Status.{Status}
use Rattle.wm_keeper.specs.Store.{Store}
use Rattle.wm_machine.specs.declared.command.Command.{Command}
use Rattle.wm_machine.specs.declared.event.Event.{Event}
use Rattle.wm_machine.specs.declared.state.Instance.{Instance}
use Rattle.wm_machine.specs.declared.state.State.{State}

-- it leaves the store as it was
pub crash-unopened : (lines : List Command) (began at_opening : Bool) (ended : Status) (instances : List Instance) (last : State) (log : List Event)
    (before now : Store)
    → began ≡ false → at_opening ≡ false → now ≡ before → IsHeldAlone before.rows before
    → RunImages began at_opening ended lines before.rows instances last log now
crash-unopened lines began at_opening ended instances last log before now unbegun early same alone =
    rw (unbegun, early, same) (leaves-held before.rows before alone)
