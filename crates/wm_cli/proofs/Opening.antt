-- A run that has opened its store, and one that hasn't.
use Rattle.std.proofs.Common.{◌≡◌, List, [], refl, arith, ◌++◌, sym, ◌∙◌, ap, subst, ◌<◌, ◌^◌, length}
use Rattle.std.specs.List.{AllByRecursion}
use Rattle.wm_beginning.specs.Begun.{AreInputs, HasBegun}
use Rattle.wm_beginning.specs.declared.loading.Loaded.{Loaded}
use Rattle.wm_bench.specs.declared.place.Place.{Place}
use Rattle.wm_cli.specs.Setup.{IsSetUp}
use Rattle.wm_ended.specs.Tells.{Tells}
use Rattle.wm_ended.specs.declared.status.Status.{Status}
use Rattle.wm_ended.specs.declared.status.Status.TheVariants as status
use Rattle.wm_keeper.specs.declared.row.Row.{Row}
use Rattle.wm_machine.proofs.Openings.{opened-nothing, reached-opened, rest-opened}
use Rattle.wm_machine.proofs.Serials.{AreInOrder-nothing, BeginsSerial-goes-on}
use Rattle.wm_machine.specs.Log.{commands_of, AreNumberedFrom}
use Rattle.wm_machine.specs.Opened.{Opened, opening_state}
use Rattle.wm_machine.specs.Outcome.{IsAskable}
use Rattle.wm_machine.specs.Serial.{BeginsSerial}
use Rattle.wm_machine.specs.declared.command.Command.{Command}
use Rattle.wm_machine.specs.declared.event.Event.{Event}
use Rattle.wm_machine.specs.declared.state.Instance.{Instance}
use Rattle.wm_machine.specs.declared.state.State.{State}
use Rattle.wm_session.specs.Ended.{HasCommands, IsSerialRun}
use Rattle.wm_engine.specs.Inputs.{Inputs}
use Rattle.wm_engine.specs.TableState.{TableState}

-- no event is a front of any commands
pub HasCommands-nothing : (commands : List Command) (ended : Status) (log : List Event) → log ≡ [] → (ended ≡ status.Done → [] ≡ commands)
    → HasCommands commands ended log
HasCommands-nothing commands ended log none all = record {
  front = (commands, ap (λ (l : List Event). commands_of l ++ commands) (sym none));
  numbered = subst (AreNumberedFrom 1) (sym none) tt;
  all = λ done. ap commands_of none ∙ all done;
}

-- from a state that rows opened to, the empty log is a front of a serial log, over any askable commands
pub BeginsSerial-nothing : {rows : List Row} {instances : List Instance} (lines : List Command) (first : State) (log : List Event)
    → AllByRecursion IsAskable lines → Opened rows instances first → log ≡ [] → BeginsSerial lines first log
BeginsSerial-nothing {rows} {instances} lines first log askable opened none =
    let valid = reached-opened rows instances first opened in
    let no_run = rest-opened opened in
    rw (none)
    (BeginsSerial-goes-on lines lines first first [] askable refl no_run refl valid (rw no_run (omega arith))
    (AreInOrder-nothing lines first))

-- a run that ended early
pub IsSerialRun-early : (lines : List Command) (ended : Status) (first : State) (log : List Event) (last : State) → (ended ≡ status.Done → ⊥)
    → BeginsSerial lines first log → IsSerialRun lines ended first log last
IsSerialRun-early lines status.Done first log last early begins = absurd (early refl)
IsSerialRun-early lines _ first log last early begins = begins

-- the same for a run whose store wasn't opened
pub IsSerialRun-unopened : (lines : List Command) (ended : Status) (first : State) (log : List Event) (last : State) → AllByRecursion IsAskable lines
    → (ended ≡ status.Done → ⊥) → first ≡ opening_state [] [] → log ≡ [] → IsSerialRun lines ended first log last
IsSerialRun-unopened lines ended first log last askable early is none =
    let opened = opened-nothing [] (record { few = omega arith; in_order = tt; all = tt }) in
    rw is (IsSerialRun-early lines ended (opening_state [] []) log last early (BeginsSerial-nothing lines (opening_state [] []) log askable opened none))

-- what a table begins with that has just begun of what was loaded
pub IsSetUp-begun : {K W B : Type 0} (tells : Tells K W B) (run : Inputs) (loaded : Loaded K W B) (commands : List Command) (table : TableState K)
    (places : List (Place B)) (sink : W)
    → AreInputs tells run loaded commands → HasBegun tells.store tells.kind_of run loaded.hands.items loaded.sink table places sink
    → AllByRecursion IsAskable commands → length commands < 2 ^ 32 → IsSetUp tells run commands table places sink
IsSetUp-begun tells run loaded commands table places sink inputs begun askable few = record {
  lines = inputs.lines_are;
  askable = askable;
  few = few;
  begun = begun.begun;
  benched = begun.benched;
  written = ap tells.given begun.sink_is ∙ inputs.written;
  sink_faults = ap tells.sink_faults begun.sink_is ∙ inputs.sink_faults;
}
