-- What callers hand back, from what the calls below them handed back.
use Rattle.std.proofs.Common.{◌+◌, ◌≡◌, ℕ, List, [], Some, sym, ◌∙◌, ap, subst, refl, true, false, Option, option_map, IfErr, IfOk, IsSome, Result, Ok, Err}
use Rattle.std.specs.Option.{option_map_or}
use Rattle.wm_beginning.proofs.Causes.{caused-opened, within-script}
use Rattle.wm_beginning.proofs.Nothing.{nothing-begun, nothing-opened}
use Rattle.wm_beginning.proofs.Overs.{IsRunOver-begun, IsRunOver-loaded}
use Rattle.wm_beginning.proofs.ReportedRuns.{AreReportedOnce-nothing, AreReportedOnce-replayed}
use Rattle.wm_beginning.proofs.Unbegun.{not_begun-loaded}
use Rattle.wm_beginning.proofs.Unread.{ForScript-any, IsTextWritten-nothing}
use Rattle.wm_beginning.specs.Begun.{AreInputs}
use Rattle.wm_beginning.specs.Caused.{BeganNothing}
use Rattle.wm_beginning.specs.Loading.{HasLoaded, MayBegin}
use Rattle.wm_beginning.specs.NotBegun.{IsNotBegun, IsNotBegunStatus}
use Rattle.wm_beginning.specs.Over.{AreHandsOf, HasNotBegun, IsBegunBy}
use Rattle.wm_beginning.specs.Reading.{AreCommandsOf, Reads}
use Rattle.wm_beginning.specs.Script.{IsTakenWithin}
use Rattle.wm_beginning.specs.declared.loading.Loaded.{Loaded}
use Rattle.wm_bench.specs.declared.hand.Hand.{Hand}
use Rattle.wm_callers_program.specs.Ended.{AreCallsOf, CallsComeFirst, IsCallersEnd, IsCallersRunEnd}
use Rattle.wm_callers_program.specs.Lines.{lines_for, lines_of, AskedLine}
use Rattle.wm_callers_program.specs.Run.{callers_of, IsCallersRun}
use Rattle.wm_callers_program.specs.declared.program.CallersEnd.{CallersEnd}
use Rattle.wm_ended.specs.Ended.{IsUnbegun}
use Rattle.wm_ended.specs.Tells.{Tells}
use Rattle.wm_ended.specs.declared.ended.Ended.{Ended}
use Rattle.wm_ended.specs.declared.not_begun.NotBegun.{NotBegun}
use Rattle.wm_ended.specs.declared.status.Status.{Status}
use Rattle.wm_ended.specs.declared.status.Status.TheVariants as status
use Rattle.wm_keeper.specs.Store.{Store, told_before, IsAtMost}
use Rattle.wm_keeper.specs.declared.row.Row.{Row}
use Rattle.wm_machine.specs.declared.command.Command.{Command}
use Rattle.wm_machine.specs.declared.event.Event.{Event}
use Rattle.wm_machine.specs.declared.state.Instance.{Instance}
use Rattle.wm_rows.specs.Sound.{AreSound}
use Rattle.wm_script.specs.Limits.{most_script_bytes}
use Rattle.wm_script.specs.Lines.{commands_in}
use Rattle.wm_seating.specs.Hands.{instances_from}
use Rattle.wm_engine.specs.Inputs.{Inputs}
use Rattle.wm_words.specs.Callers.{callers_asked, callers_options_of, CallersOptions}
use Rattle.wm_words.specs.declared.callers.CallersOptions.{CallersOptions as ReadOptions}

-- ---- where nothing was called

-- a log without an event has a front of any lines
pub no-calls : (callers : ℕ) (lines : List AskedLine) (ended : Status) (log : List Event) (numbers : List ℕ) → log ≡ [] → numbers ≡ []
    → (ended ≡ status.Done → ⊥) → AreCallsOf callers lines ended log numbers
no-calls callers lines ended log numbers none nobody early = rw (none, nobody) (record {
  called = record { numbers_are = refl; fronts = λ number below. (lines_for callers number lines, refl) };
  all_called = λ done. absurd (early done);
})

pub none-first : (log : List Event) → log ≡ [] → CallsComeFirst log
none-first log none = record { calls = []; drain = []; log_is = none; of_desk = tt; silent = refl }

-- ---- where a table was begun

-- callers whose table was begun
pub IsCallersRunEnd-begun : {K W B : Type 0} (tells : Tells K W B) (run : Inputs) (callers : ℕ) (lines : List AskedLine) (loaded : Loaded K W B)
    (commands : List Command) (numbers : List ℕ) (ended : Ended K W B)
    → IsCallersEnd tells run callers lines numbers ended → AreInputs tells run loaded commands → MayBegin tells.store tells.kind_of loaded → AreSound run.rows
    → IsCallersRunEnd tells callers lines loaded.hands.items (tells.store loaded.keeper).name (Some run.rows) (Some run.rows) loaded.keeper loaded.sink numbers
    ended
IsCallersRunEnd-begun tells run callers lines loaded commands numbers ended end inputs may sound =
    record { over = IsRunOver-begun tells run loaded commands ended end.over inputs may sound; calls = end.calls; calls_first = end.calls_first }

-- callers over the rows that were loaded are callers over the keeper as it was before
pub called-loaded : {K W B : Type 0} (tells : Tells K W B) (callers : ℕ) (lines : List AskedLine) (hands : List (Hand B)) (name : List ℕ)
    (rows : List Row) (keeper loaded : K) (sink : W) (came : Result (CallersEnd K W B) (NotBegun K W B))
    → HasLoaded name rows (tells.store keeper) (tells.store loaded)
    → IfOk came (λ end. IsCallersRunEnd tells callers lines hands (tells.store loaded).name (Some rows) (Some rows) loaded sink end.callers.items end.ended)
    → IfOk came (λ end. IsCallersRunEnd tells callers lines hands (Some name)
    (told_before (tells.store keeper).rows (tells.store end.ended.keeper).rows) (tells.store keeper).rows keeper sink end.callers.items end.ended)
called-loaded tells callers lines hands name rows keeper loaded sink (Err back) load is = tt
called-loaded tells callers lines hands name rows keeper loaded sink (Ok end) load is =
    record { over = IsRunOver-loaded tells hands name rows keeper loaded sink end.ended is.over load; calls = is.calls; calls_first = is.calls_first }

-- and so where none was begun
pub uncalled-loaded : {K W B : Type 0} (store : K → Store) (instances : List Instance) (hands : List (Hand B)) (name : List ℕ) (rows : List Row)
    (keeper loaded : K) (sink : W) (came : Result (CallersEnd K W B) (NotBegun K W B))
    → HasLoaded name rows (store keeper) (store loaded) → IfErr came (IsNotBegun store instances hands (Some rows) loaded sink)
    → IfErr came (λ back. IsNotBegun store instances hands (told_before (store keeper).rows (store back.keeper).rows) keeper sink back)
uncalled-loaded store instances hands name rows keeper loaded sink (Ok end) load is = tt
uncalled-loaded store instances hands name rows keeper loaded sink (Err back) load is =
    not_begun-loaded store instances hands name rows keeper loaded sink back load is

-- ---- the words and the script

-- how many callers the words ask for is what the options that were read have
pub callers-read : (words : List (List ℕ)) (options : ReadOptions) → Some (callers_asked options) ≡ callers_options_of words
    → callers_of words ≡ options.callers
callers-read words options are = ap (λ (asked : Option CallersOptions). option_map_or (λ (options : CallersOptions). options.callers) asked 0) (sym are)

module _ {K W B S : Type 0} (tells : Tells K W B) (source : Reads S) (words : List (List ℕ)) (workers : List (Hand B)) (before now : S) (keeper : K) (sink : W)
  where
    -- the commands were read, and their lines called
    pub run-called : (options : ReadOptions) (commands : List Command) (came : Result (CallersEnd K W B) (NotBegun K W B))
        → Some (callers_asked options) ≡ callers_options_of words → AreCommandsOf (source.left before) commands
        → IsTakenWithin (most_script_bytes + 1) (source.left before) (source.left now)
        → IfOk came (λ end. IsCallersRunEnd tells options.callers (lines_of commands) workers (Some options.store.now)
        (told_before (tells.store keeper).rows (tells.store end.ended.keeper).rows) (tells.store keeper).rows keeper sink end.callers.items end.ended)
        → IfOk came (λ end. IsCallersRun tells source words workers before now keeper sink end.callers.items end.ended)
    run-called options commands (Err back) asked read reads is = tt
    run-called options commands (Ok end) asked read reads is =
        let ended = end.ended in
        let its = is.over in
        record {
          replay = its.replay;
          replay_left = its.replay_left;
          keeps_telling = its.goes_on.keeps;
          begun = its.begun;
          at_opening = its.at_opening;
          not_begun_keeps = its.not_begun_keeps;
          rows = its.rows;
          store = λ began.
              subst (λ (o : Option CallersOptions). IsAtMost (option_map (λ options. options.store) o) (tells.store ended.keeper).name) asked (its.store_is began);
          script = record {
            bytes = read.bytes;
            told = read.told;
            holds = rw (callers-read words options asked, ← read.holds.0) is.calls;
          };
          calls_first = is.calls_first;
          bytes = its.bytes;
          end = its.end;
          reports = AreReportedOnce-replayed _ _ ended.began ended.first ended.log ended.last its.replay;
          hands = its.hands_back;
          reads = reads;
          causes = caused-opened tells source (callers_options_of words) before now keeper sink ended.keeper ended.sink ended.status (subst IsSome asked refl)
              (within-script (λ bytes. commands ≡ commands_in bytes) (source.left before) read) its.causes;
          done = λ done. subst (λ s. IsBegunBy s ended.began) done its.begun;
        }

    -- and none was
    pub run-uncalled : (commands : List Command) (came : Result (CallersEnd K W B) (NotBegun K W B)) → IsSome (callers_options_of words)
        → AreCommandsOf (source.left before) commands → IsTakenWithin (most_script_bytes + 1) (source.left before) (source.left now)
        → IfErr came (λ back. IsNotBegun tells.store (instances_from tells.kind_of 0 workers) workers
        (told_before (tells.store keeper).rows (tells.store back.keeper).rows) keeper sink back)
        → IfErr came (BeganNothing tells source (callers_options_of words) workers before now keeper sink)
    run-uncalled commands (Ok end) right read reads is = tt
    run-uncalled commands (Err back) right read reads is =
        nothing-opened tells source (callers_options_of words) before keeper sink now workers back right
        (within-script (λ bytes. commands ≡ commands_in bytes) (source.left before) read) reads is

    -- a run whose table wasn't begun
    pub run-nothing : (back : NotBegun K W B) (ended : Ended K W B) (numbers : List ℕ)
        → BeganNothing tells source (callers_options_of words) workers before now keeper sink back
        → IsUnbegun back.status back.at_opening back.keeper back.sink back.hands ended → numbers ≡ []
        → IsCallersRun tells source words workers before now keeper sink numbers ended
    run-nothing back ended numbers is at nobody =
        let nothing : HasNotBegun ended.first ended.log ended.last = record { first_is = at.first; last_is = at.last; no_event = at.log } in
        let sink_is : ended.sink ≡ sink = at.sink_is ∙ is.untouched.sink_is in
        let early : ended.status ≡ status.Done → ⊥ = λ done. subst IsNotBegunStatus (sym at.status_is ∙ done) is.status_is in
        record {
          replay = rw at.began nothing;
          replay_left = λ image left. rw at.began nothing;
          keeps_telling = rw at.keeper_is is.keeps_telling;
          begun = rw at.status_is (nothing-begun back.status ended.began is.status_is at.began);
          at_opening = rw (at.began, at.opening, at.status_is, at.keeper_is) is.untouched.at_opening;
          not_begun_keeps = λ began. sink_is;
          rows = rw (at.began, at.keeper_is) is.untouched.rows;
          store = λ began. let clash : true ≡ false = sym began ∙ at.began in absurd (cc);
          script = ForScript-any (source.left before) (λ bytes. AreCallsOf (callers_of words) (lines_of (commands_in bytes)) ended.status ended.log numbers)
              (λ bytes. no-calls (callers_of words) (lines_of (commands_in bytes)) ended.status ended.log numbers at.log nobody early);
          calls_first = none-first ended.log at.log;
          bytes = IsTextWritten-nothing (tells.given sink) (tells.given ended.sink) ended.status ended.first ended.log (ap tells.given sink_is) at.log;
          end = λ done. absurd (early done);
          reports = AreReportedOnce-nothing ended.first ended.log ended.last at.log;
          hands = subst (λ began. AreHandsOf tells.kind_of began ended.last workers ended.hands.items) (sym at.began)
              (ap (λ v. v.items) at.hands_are ∙ is.untouched.hands_back);
          reads = is.reads;
          causes = rw (at.status_is, at.keeper_is, at.sink_is) is.causes;
          done = λ done. absurd (early done);
        }
