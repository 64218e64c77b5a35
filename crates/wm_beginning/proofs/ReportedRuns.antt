-- Each run of a log is reported once.
use Rattle.std.proofs.Common.{◌≡◌, Bool, true, false, List, [], ◌∷◌, ◌++◌, Option, sym, ◌∙◌, subst}
use Rattle.wm_beginning.specs.Over.{AreReportedOnce, IsReplayed}
use Rattle.wm_keeper.specs.declared.row.Row.{Row}
use Rattle.wm_machine.proofs.Openings.{reached-opened}
use Rattle.wm_machine.proofs.Reports.{reported_once}
use Rattle.wm_machine.specs.Replay.{Replay}
use Rattle.wm_machine.specs.declared.event.Event.{Event}
use Rattle.wm_machine.specs.declared.state.Instance.{Instance}
use Rattle.wm_machine.specs.declared.state.State.{State}

no_part : (before later : List Event) (e : Event) → [] ≡ before ++ e ∷ later → ⊥
no_part [] later e is = absurd cc
no_part (one ∷ before) later e is = absurd cc

-- a log without an event starts none
pub AreReportedOnce-nothing : (first : State) (log : List Event) (last : State) → log ≡ [] → AreReportedOnce first log last
AreReportedOnce-nothing first log last none before later run seq instance input is = absurd (no_part before later _ (sym none ∙ is))

-- a log that replays from the rows opened reports each once
pub AreReportedOnce-replayed : (held : Option (List Row)) (instances : List Instance) (began : Bool) (first : State) (log : List Event) (last : State)
    → IsReplayed held instances began first log last → AreReportedOnce first log last
AreReportedOnce-replayed held instances true first log last replayed before later run seq instance input is =
    let from = replayed.opened in
    let valid = reached-opened from.rows instances first from.opened in
    reported_once first last before later run seq instance input valid (subst (λ all. Replay first all last) is replayed.replay)
AreReportedOnce-replayed held instances false first log last unbegun before later run seq instance input is =
    absurd (no_part before later _ (sym unbegun.no_event ∙ is))
