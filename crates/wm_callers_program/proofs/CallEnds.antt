-- What is so of the calls of a desk is so of the log after a drain, and in the end.
use Rattle.std.proofs.Common.{◌≡◌, ℕ, List, [], ◌∷◌, ◌++◌, ◌≤◌, map, length, Option, Some, None, refl, sym, ap, subst, ◌∙◌, append_assoc, arith}
use Rattle.std.proofs.lemmas.List.{append-nil}
use Rattle.std.specs.List.{AllByRecursion}
use Rattle.wm_callers.specs.ForDesk.{IsForDesk}
use Rattle.wm_callers.specs.History.{IsOfDesk}
use Rattle.wm_callers_program.specs.Calls.{line_at, lines_in, IsCalledOut}
use Rattle.wm_callers_program.specs.Ended.{CallsComeFirst, IsCallersEnd}
use Rattle.wm_callers_program.specs.Ending.{IsHandedOver}
use Rattle.wm_callers_program.specs.Lines.{caller_of, lines_for, AskedLine}
use Rattle.wm_callers_program.specs.LogTexts.{AddsNoObserver, IsNoObserve}
use Rattle.wm_collections.proofs.Lists.{All-append, All-weaker}
use Rattle.wm_faults.specs.Faults.{Failed}
use Rattle.wm_machine.specs.Log.{commands_of}
use Rattle.wm_machine.specs.Quiet.{IsQuiet}
use Rattle.wm_machine.specs.declared.command.Command.{Command}
use Rattle.wm_machine.specs.declared.command.Command.TheVariants as command
use Rattle.wm_machine.specs.declared.event.Event.{Event}
use Rattle.wm_machine.specs.declared.event.Event.TheVariants as event
use Rattle.wm_ended.specs.Ended.{IsTextWritten}
use Rattle.wm_ended.specs.Tells.{Tells}
use Rattle.wm_ended.specs.declared.ended.Ended.{Ended}
use Rattle.wm_engine.specs.Inputs.{Inputs}
use Rattle.wm_engine.specs.TableState.{TableState}
use Rattle.wm_engine.specs.declared.trouble.Trouble.{Trouble}
use Rattle.wm_engine.specs.declared.trouble.Trouble.TheVariants as trouble

-- ---- a log without commands

lines-append : (log more : List Event) → lines_in (log ++ more) ≡ lines_in log ++ lines_in more
lines-append [] more = refl
lines-append (e ∷ log) more = ap (λ rest. line_at e ++ rest) (lines-append log more) ∙ sym (append_assoc (line_at e) (lines_in log) (lines_in more))

lines-silent : (log : List Event) → commands_of log ≡ [] → lines_in log ≡ []
lines-silent [] silent = refl
lines-silent (event.Command line asked reply ∷ log) silent = absurd (omega (arith, ap length silent))
lines-silent (event.Start run seq instance input ∷ log) silent = lines-silent log silent
lines-silent (event.StartFailed seq cause ∷ log) silent = lines-silent log silent
lines-silent (event.Turn run progress ∷ log) silent = lines-silent log silent
lines-silent (event.Finish run end ∷ log) silent = lines-silent log silent
lines-silent (event.TimedOut run ∷ log) silent = lines-silent log silent
lines-silent (event.Late run ∷ log) silent = lines-silent log silent

-- a drain calls no line
pub lines-drained : (log drain : List Event) → commands_of drain ≡ [] → lines_in (log ++ drain) ≡ lines_in log
lines-drained log drain silent = lines-append log drain ∙ ap (λ l. lines_in log ++ l) (lines-silent drain silent) ∙ append-nil (lines_in log)

-- ---- observers

no-observe : (asked : Command) → IsForDesk asked → IsNoObserve asked
no-observe (command.Enqueue named batch) fits = tt
no-observe (command.Cancel target) fits = tt
no-observe (command.Update request) fits = tt
no-observe (command.Moment at) fits = tt
no-observe (command.Conditions conditions) fits = tt
no-observe (command.Prune force) fits = tt
no-observe (command.Query query) fits = tt
no-observe (command.Observe query) fits = absurd fits
no-observe (command.Retire class) fits = tt
no-observe command.Settle fits = tt
no-observe command.Hush fits = tt
no-observe command.Summary fits = tt
no-observe (command.Faulty fault) fits = tt

desk-plain : (e : Event) → IsOfDesk e → AddsNoObserver e
desk-plain (event.Command line asked reply) fits = no-observe asked fits
desk-plain (event.Start run seq instance input) fits = tt
desk-plain (event.StartFailed seq cause) fits = tt
desk-plain (event.Turn run progress) fits = tt
desk-plain (event.Finish run end) fits = tt
desk-plain (event.TimedOut run) fits = tt
desk-plain (event.Late run) fits = tt

silent-plain : (log : List Event) → commands_of log ≡ [] → AllByRecursion AddsNoObserver log
silent-plain [] silent = tt
silent-plain (event.Command line asked reply ∷ log) silent = absurd (omega (arith, ap length silent))
silent-plain (event.Start run seq instance input ∷ log) silent = (tt, silent-plain log silent)
silent-plain (event.StartFailed seq cause ∷ log) silent = (tt, silent-plain log silent)
silent-plain (event.Turn run progress ∷ log) silent = (tt, silent-plain log silent)
silent-plain (event.Finish run end ∷ log) silent = (tt, silent-plain log silent)
silent-plain (event.TimedOut run ∷ log) silent = (tt, silent-plain log silent)
silent-plain (event.Late run ∷ log) silent = (tt, silent-plain log silent)

-- a log in which the calls come first has no observers
pub plain-calls : (log : List Event) → CallsComeFirst log → AllByRecursion AddsNoObserver log
plain-calls log first =
    subst (AllByRecursion AddsNoObserver) (sym first.log_is)
    (All-append AddsNoObserver first.calls first.drain (All-weaker first.calls desk-plain first.of_desk) (silent-plain first.drain first.silent))

-- ---- the end

-- callers whose calls were made, after which a drain went on by these events, and whose table was handed over
pub callers-ended : {K W B : Type 0} (tells : Tells K W B) (run : Inputs) (callers : ℕ) (lines : List AskedLine) (numbers : List ℕ) (calls drain : List Event)
    (refused at_last : Option Trouble) (before now : ℕ) (table : TableState K) (sink : W) (ended : Ended K W B)
    → IsCalledOut callers lines refused numbers calls before now → table.log ≡ calls ++ drain → commands_of drain ≡ []
    → (at_last ≡ None → (refused ≡ None) × IsQuiet table.state)
    → (at_last ≡ Some trouble.KeeperFault → Failed run.store.faults (tells.store table.keeper).faults)
    → tells.given sink ≡ run.written → tells.sink_faults sink ≡ run.sink_faults
    → IsHandedOver tells run at_last table sink ended → IsCallersEnd tells run callers lines numbers ended
callers-ended tells run callers lines numbers calls drain refused at_last before now table sink ended called log silent quiet fault given sinks over =
    let logged : ended.log ≡ calls ++ drain = over.log ∙ log in
    let same : lines_in ended.log ≡ lines_in calls = ap lines_in logged ∙ lines-drained calls drain silent in
    record {
      over = record {
        status_is = over.status_is;
        began = over.began;
        at_opening = over.at_opening;
        opened = over.opened;
        replay = over.replay;
        quiet = λ done. subst IsQuiet (sym over.last) (quiet (over.done done)).1;
        bytes = subst (λ g. IsTextWritten g (tells.given ended.sink) ended.status ended.first ended.log) given over.bytes;
        rows = over.rows;
        tells_on = over.tells_on;
        hands = over.hands;
        keeper_fault = λ is. subst (λ keeper. Failed run.store.faults (tells.store keeper).faults) (sym over.keeper_is) (fault (over.keeper_fault is));
        sink_fault = λ is. subst (λ n. Failed n (tells.sink_faults ended.sink)) sinks (over.sink_fault is);
      };
      calls = record {
        called = record {
          numbers_are = called.calls.numbers_are ∙ ap (map (caller_of callers)) (sym same);
          fronts = λ number below.
              let front = called.calls.fronts number below in (front.0, ap (λ l. lines_for callers number l ++ front.0) same ∙ front.1);
        };
        all_called = λ done number below. ap (lines_for callers number) same ∙ called.whole (quiet (over.done done)).0 number below;
      };
      calls_first = record { calls = calls; drain = drain; log_is = logged; of_desk = called.alone; silent = silent };
    }

-- where nothing was called, since memory was refused before
pub none-called : (callers before : ℕ) (lines : List AskedLine) → IsCalledOut callers lines (Some trouble.Memory) [] [] before before
none-called callers before lines = record {
  calls = record { numbers_are = refl; fronts = λ number below. (lines_for callers number lines, refl) };
  whole = λ none. absurd cc;
  alone = tt;
  fault = λ is. absurd cc;
  later = omega arith;
}

-- a fault after another moment is one after the first
pub failed-later : (first before now : ℕ) → first ≤ before → Failed before now → Failed first now
failed-later first before now later failed = record { later = omega (arith, later, failed.later); rose = omega (arith, later, failed.later, failed.rose) }
