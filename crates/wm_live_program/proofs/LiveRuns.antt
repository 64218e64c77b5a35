-- The promise of a test driver that is asked the lines of a script, where its asks were read.
use Rattle.std.proofs.Common.{◌≡◌, ℕ, List, Option, Some, IfSome, option_map, Result, Ok, Err, IfOk, subst, ◌+◌, IfErr, IsSome, refl}
use Rattle.wm_asks.specs.declared.ask.Ask.{Ask}
use Rattle.wm_beginning.proofs.Causes.{caused-opened, within-script}
use Rattle.wm_beginning.proofs.Nothing.{nothing-opened}
use Rattle.wm_beginning.specs.Caused.{BeganNothing}
use Rattle.wm_beginning.specs.NotBegun.{IsNotBegun}
use Rattle.wm_beginning.specs.Reading.{Reads}
use Rattle.wm_beginning.specs.Script.{IsTakenWithin}
use Rattle.wm_bench.specs.declared.hand.Hand.{Hand}
use Rattle.wm_ended.specs.Tells.{Tells}
use Rattle.wm_ended.specs.declared.not_begun.NotBegun.{NotBegun}
use Rattle.wm_keeper.specs.Store.{told_before, IsAtMost}
use Rattle.wm_live_program.specs.Asks.{asks_in}
use Rattle.wm_live_program.specs.Driven.{IsDriven}
use Rattle.wm_live_program.specs.Ended.{HasEnded}
use Rattle.wm_live_program.specs.Reading.{AreAsksOf}
use Rattle.wm_live_program.specs.Run.{HasLived, IsLiveRun}
use Rattle.wm_live_program.specs.declared.ended.LiveEnded.{LiveEnded}
use Rattle.wm_script.specs.Limits.{most_script_bytes}
use Rattle.wm_seating.specs.Hands.{instances_from}
use Rattle.wm_words.specs.Live.{live_asked, live_options_of, LiveOptions}
use Rattle.wm_words.specs.declared.live.LiveOptions.{LiveOptions as ReadOptions}

-- ---- the asks are those of the script, with the words' step

pub has-lived : {K W B : Type 0} (tells : Tells K W B) (left : Option (List ℕ)) (words : List (List ℕ)) (options : ReadOptions) (asks : List Ask)
    (workers : List (Hand B)) (keeper : K) (sink : W) (ended : LiveEnded K W B)
    → Some (live_asked options) ≡ live_options_of words → AreAsksOf left asks
    → HasEnded tells options.step asks workers (Some options.store.now) (told_before (tells.store keeper).rows (tells.store ended.end.table.keeper).rows) keeper
    sink ended
    → HasLived tells left words workers keeper sink ended
has-lived tells left words options asks workers keeper sink ended asked read is = record {
  opened = is.opened;
  asks = record {
    bytes = read.bytes;
    told = read.told;
    holds = subst (λ (o : Option LiveOptions). IfSome o (λ options. IsDriven tells.store options.step (asks_in read.bytes) ended.end)) asked
        (subst (λ (all : List Ask). IsDriven tells.store options.step all ended.end) read.holds.0 is.driven);
  };
  all_asked = is.all_asked;
  rows = is.rows;
  store = subst (λ (o : Option LiveOptions). IsAtMost (option_map (λ options. options.store) o) (tells.store ended.end.table.keeper).name) asked is.store_is;
  bytes = is.bytes;
}

module _ {K W B S : Type 0} (tells : Tells K W B) (source : Reads S) (words : List (List ℕ)) (workers : List (Hand B)) (before now : S) (keeper : K) (sink : W)
  where
    -- no table was begun
    pub live-nothing : (back : NotBegun K W B) → BeganNothing tells source (live_options_of words) workers before now keeper sink back
        → IsLiveRun tells source words workers before now keeper sink (Err back)
    live-nothing back is = record {
      begun = tt;
      not_begun = is.untouched;
      keeps_telling = is.keeps_telling;
      reads = is.reads;
      causes = is.causes;
      statuses = is.status_is;
    }

    -- the asks were read
    pub live-asked : (options : ReadOptions) (asks : List Ask) (came : Result (LiveEnded K W B) (NotBegun K W B))
        → Some (live_asked options) ≡ live_options_of words → AreAsksOf (source.left before) asks
        → IsTakenWithin (most_script_bytes + 1) (source.left before) (source.left now)
        → IfOk came (λ ended. HasEnded tells options.step asks workers (Some options.store.now)
        (told_before (tells.store keeper).rows (tells.store ended.end.table.keeper).rows) keeper sink ended)
        → IfErr came (λ back. IsNotBegun tells.store (instances_from tells.kind_of 0 workers) workers
        (told_before (tells.store keeper).rows (tells.store back.keeper).rows) keeper sink back)
        → IsLiveRun tells source words workers before now keeper sink came
    live-asked options asks (Ok ended) asked read reads is unbegun = record {
      begun = has-lived tells (source.left before) words options asks workers keeper sink ended asked read is;
      not_begun = tt;
      keeps_telling = is.goes_on.keeps;
      reads = reads;
      causes = caused-opened tells source (live_options_of words) before now keeper sink ended.end.table.keeper ended.sink ended.status
          (subst IsSome asked refl) (within-script (λ bytes. asks ≡ asks_in bytes) (source.left before) read) is.causes;
      statuses = is.status_is;
    }
    live-asked options asks (Err back) asked read reads begun is =
        live-nothing back
        (nothing-opened tells source (live_options_of words) before keeper sink now workers back (subst IsSome asked refl)
        (within-script (λ bytes. asks ≡ asks_in bytes) (source.left before) read) reads is)
