-- What each start of a log had.
use Rattle.std.proofs.Common.{ℕ, List, ◌∷◌, ◌++◌}
use Rattle.wm_machine.specs.Types.{DataEntry, Event, State}
use Rattle.wm_machine.proofs.Firsts.{first_of-startable, first_of-stored, IsStartable-from}
use Rattle.wm_machine.proofs.Reports.{middle_of}
use Rattle.wm_machine.proofs.Waitings.{met-succeeded}
use Rattle.wm_machine.specs.Replay.{Replay}
use Rattle.wm_machine.specs.Started.{HadItsPrerequisites}
use Rattle.wm_machine.specs.Step.{IsStart}
use Rattle.wm_machine.specs.declared.event.Event.TheVariants as event

pub had_its_prerequisites : (first last : State) (before later : List Event) (run seq instance : ℕ) (input : List DataEntry)
    → Replay first (before ++ event.Start run seq instance input ∷ later) last → HadItsPrerequisites first before seq input
had_its_prerequisites first last before later run seq instance input replays =
    let cut = middle_of first before (event.Start run seq instance input) later last replays in
    let s = cut.middle in
    let legal : IsStart s run seq instance input = cut.legal in
    let startable = IsStartable-from s legal.work (first_of-startable s legal.work legal.is_first) in
    record {
      s = s;
      work = legal.work;
      replay = cut.to_middle;
      stored = first_of-stored s legal.work legal.is_first;
      seq_is = legal.seq_is;
      succeeded = met-succeeded s.works legal.work startable.prerequisites;
      input_is = legal.input_is;
    }
