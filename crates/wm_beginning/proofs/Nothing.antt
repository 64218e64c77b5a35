-- A program that began no table: its words were wrong, its script wasn't read, or its store wasn't opened.
use Rattle.std.proofs.Common.{◌≡◌, ◌+◌, ◌≤◌, ℕ, Bool, false, List, [], Option, Some, None, IfSome, IsSome, Vec, Global, refl, sym, arith}
use Rattle.wm_beginning.proofs.Causes.{caused-opened, caused-read, caused-usage}
use Rattle.wm_beginning.proofs.Unbegun.{caused-early}
use Rattle.wm_beginning.specs.Caused.{BeganNothing}
use Rattle.wm_beginning.specs.NotBegun.{EarlyCause, IsNotBegun, IsNotBegunStatus, IsUntouched}
use Rattle.wm_beginning.specs.Over.{IsBegunBy}
use Rattle.wm_beginning.specs.Reading.{IsReadStatus, Reads}
use Rattle.wm_beginning.specs.Script.{IsTakenWithin}
use Rattle.wm_bench.specs.declared.hand.Hand.{Hand}
use Rattle.wm_ended.specs.Tells.{Tells}
use Rattle.wm_ended.specs.declared.not_begun.NotBegun.{NotBegun}
use Rattle.wm_ended.specs.declared.status.Status.{Status}
use Rattle.wm_ended.specs.declared.status.Status.TheVariants as status
use Rattle.wm_keeper.proofs.Stores.{GoesOn-same, IsAtMost-same}
use Rattle.wm_keeper.specs.Store.{told_before}
use Rattle.wm_keeper.specs.declared.row.Row.{Row}
use Rattle.wm_script.specs.Limits.{first_limit, most_script_bytes}
use Rattle.wm_seating.specs.Hands.{instances_from}

taken-none : (limit : ℕ) (left : Option (List ℕ)) → IsTakenWithin limit left left
taken-none limit None = record { bytes = []; few = omega arith; taken = refl }
taken-none limit (Some rest) = record { bytes = []; few = omega arith; taken = refl }

not_begun-read : (why : Status) (before now : ℕ) (left : Option (List ℕ)) → IsReadStatus why before now left → IsNotBegunStatus why
not_begun-read status.Done before now left read = absurd read
not_begun-read status.SinkFault before now left read = absurd read
not_begun-read _ before now left read = tt

not_begun-early : (why : Status) (before now : ℕ) (held : Option (List Row)) → EarlyCause why before now held → IsNotBegunStatus why
not_begun-early status.Done before now held cause = absurd cause
not_begun-early status.SinkFault before now held cause = absurd cause
not_begun-early _ before now held cause = tt

-- a table that wasn't begun, with such a status
pub nothing-begun : (why : Status) (began : Bool) → IsNotBegunStatus why → began ≡ false → IsBegunBy why began
nothing-begun status.Done began none is = absurd none
nothing-begun status.SinkFault began none is = absurd none
nothing-begun status.KeeperFault began none is = tt
nothing-begun status.Memory began none is = tt
nothing-begun status.Usage began none is = is
nothing-begun status.SourceFault began none is = is
nothing-begun (status.ScriptTooLong limit) began none is = is
nothing-begun (status.BadStore seq bad_row) began none is = is

module _ {K W B S O : Type 0} (tells : Tells K W B) (source : Reads S) (options : Option O) (before : S) (keeper : K) (sink : W) where
  -- what comes back is what was given
  untouched-given : (why : Status) (hands : Vec (Hand B) Global)
      → IsUntouched tells hands.items keeper sink (record { status = why; at_opening = false; keeper = keeper; sink = sink; hands = hands })
  untouched-given why hands = record {
    rows = IsAtMost-same (tells.store keeper).rows;
    sink_is = refl;
    hands_back = refl;
    at_opening = λ image left. left;
  }

  -- the words are wrong
  pub nothing-usage : (hands : Vec (Hand B) Global) → options ≡ None
      → BeganNothing tells source options hands.items before before keeper sink
      (record { status = status.Usage; at_opening = false; keeper = keeper; sink = sink; hands = hands })
  nothing-usage hands wrong = record {
    untouched = untouched-given status.Usage hands;
    keeps_telling = (GoesOn-same (tells.store keeper) (tells.store keeper) refl (λ image left. left) refl).keeps;
    reads = taken-none (most_script_bytes + 1) (source.left before);
    causes = caused-usage tells source options before before keeper sink wrong refl;
    status_is = tt;
  }

  -- the script wasn't read
  pub nothing-read : (now : S) (why : Status) (hands : Vec (Hand B) Global) → IsSome options
      → IsReadStatus why (source.faults before) (source.faults now) (source.left before)
      → IsTakenWithin (most_script_bytes + 1) (source.left before) (source.left now)
      → BeganNothing tells source options hands.items before now keeper sink
      (record { status = why; at_opening = false; keeper = keeper; sink = sink; hands = hands })
  nothing-read now why hands right read reads = record {
    untouched = untouched-given why hands;
    keeps_telling = (GoesOn-same (tells.store keeper) (tells.store keeper) refl (λ image left. left) refl).keeps;
    reads = reads;
    causes = caused-read tells source options before now keeper sink why right read;
    status_is = not_begun-read why (source.faults before) (source.faults now) (source.left before) read;
  }

  -- the store wasn't opened
  pub nothing-opened : (now : S) (workers : List (Hand B)) (back : NotBegun K W B) → IsSome options
      → IfSome (source.left before) (λ all. first_limit all ≡ None)
      → IsTakenWithin (most_script_bytes + 1) (source.left before) (source.left now)
      → IsNotBegun tells.store (instances_from tells.kind_of 0 workers) workers (told_before (tells.store keeper).rows (tells.store back.keeper).rows) keeper
      sink back
      → BeganNothing tells source options workers before now keeper sink back
  nothing-opened now workers back right within reads is =
      let held = told_before (tells.store keeper).rows (tells.store back.keeper).rows in
      record {
        untouched = record { rows = is.rows; sink_is = is.sink_is; hands_back = is.hands_back; at_opening = is.at_opening };
        keeps_telling = is.goes_on.keeps;
        reads = reads;
        causes = caused-opened tells source options before now keeper sink back.keeper back.sink back.status right within
            (caused-early tells held keeper back.keeper sink back.sink back.status is.cause);
        status_is = not_begun-early back.status (tells.store keeper).faults (tells.store back.keeper).faults held is.cause;
      }
