-- Why a program ends: for its words, for its script, or once its store was to be opened.
use Rattle.std.proofs.Common.{IsSomeAnd, ◌≡◌, ◌∙◌, ℕ, List, Option, Some, None, IfSome, IsSome, refl, sym, ap, subst, inl, inr}
use Rattle.wm_beginning.proofs.Unbegun.{none_refused}
use Rattle.wm_beginning.proofs.Unread.{past_within, without}
use Rattle.wm_beginning.specs.Caused.{HaveScript, IsCaused, IsCausedFor, IsCausedOnceRead}
use Rattle.wm_beginning.specs.Causes.{IsOpeningStatus, IsToldTooLong, IsToldWithin, IsUnlessMemory, LimitCause, StoreCause}
use Rattle.wm_beginning.specs.Reading.{ForScript, IsReadStatus, Reads}
use Rattle.wm_ended.specs.Tells.{Tells}
use Rattle.wm_ended.specs.declared.status.Status.{Status}
use Rattle.wm_ended.specs.declared.status.Status.TheVariants as status
use Rattle.wm_faults.specs.Faults.{Failed}
use Rattle.wm_keeper.specs.Store.{told_before}
use Rattle.wm_keeper.specs.declared.row.Row.{Row}
use Rattle.wm_rows.specs.Sound.{checked, AreSound}
use Rattle.wm_script.specs.Limits.{first_limit}
use Rattle.wm_script.specs.declared.limits.Limit.{Limit}
use Rattle.wm_engine.specs.Begins.{row_fault}
use Rattle.wm_words.specs.declared.run.Origin.TheVariants.{Script}

-- ---- of a status by which a script wasn't read

limit_read : (ended : Status) (before now : ℕ) (left : Option (List ℕ)) → IsReadStatus ended before now left → LimitCause ended before now left
limit_read (status.ScriptTooLong limit) before now left read = read
limit_read _ before now left read = tt

store_read : (ended : Status) (before now : ℕ) (left : Option (List ℕ)) (held : Option (List Row)) → IsReadStatus ended before now left → StoreCause ended held
store_read (status.BadStore seq bad_row) before now left held read = absurd read
store_read _ before now left held read = tt

one_limit : (left : Option (List ℕ)) (one other : Limit) → IfSome left (λ all. first_limit all ≡ Some one) → IsToldTooLong other left → one ≡ other
one_limit None one other first past = absurd past
one_limit (Some all) one other first past = let both : Some one ≡ Some other = sym first ∙ past in cc

long_read : (limit : Limit) (ended : Status) (before now : ℕ) (left : Option (List ℕ)) → IsReadStatus ended before now left → IsToldTooLong limit left
    → ¬ Failed before now → IsUnlessMemory ended (status.ScriptTooLong limit)
long_read limit status.Memory before now left read past no_fault = inr refl
long_read limit status.SourceFault before now left read past no_fault = absurd (no_fault read)
long_read limit (status.ScriptTooLong first) before now left read past no_fault = inl (ap status.ScriptTooLong (one_limit left first limit read.too_long past))
long_read limit _ before now left read past no_fault = absurd read

-- where there is a script, memory was refused
within_read : (ended : Status) (before now : ℕ) (left : Option (List ℕ)) → IsToldWithin left → ¬ Failed before now → IsReadStatus ended before now left
    → ended ≡ status.Memory
within_read ended before now left within no_fault read = without Script ended left before now (λ is. (within, no_fault)) read (λ seed is. absurd cc)

-- ---- a script that was read

-- it passes no limit
pub within-script : (P : List ℕ → Type 0) (left : Option (List ℕ)) → ForScript left (λ bytes. P bytes × (first_limit bytes ≡ None))
    → IfSome left (λ all. first_limit all ≡ None)
within-script P None script = tt
within-script P (Some all) script = subst (λ bytes. first_limit bytes ≡ None) (sym script.told) script.holds.1

-- ---- of a status with which it ended once its store was to be opened

limit_opened : (ended : Status) (before now : ℕ) (left : Option (List ℕ)) → IsOpeningStatus ended → LimitCause ended before now left
limit_opened (status.ScriptTooLong limit) before now left opened = absurd opened
limit_opened _ before now left opened = tt

done_opened : (ended : Status) (held : Option (List Row)) (rows : List Row) (keeper kept sink given : ℕ) → IsOpeningStatus ended → StoreCause ended held
    → held ≡ Some rows → AreSound rows → (ended ≡ status.KeeperFault → Failed keeper kept) → (ended ≡ status.SinkFault → Failed sink given)
    → ¬ Failed keeper kept → ¬ Failed sink given → IsUnlessMemory ended status.Done
done_opened status.Done held rows keeper kept sink given opened bad stored sound keeper_fault sink_fault keeps writes = inl refl
done_opened status.Memory held rows keeper kept sink given opened bad stored sound keeper_fault sink_fault keeps writes = inr refl
done_opened status.KeeperFault held rows keeper kept sink given opened bad stored sound keeper_fault sink_fault keeps writes = absurd (keeps (keeper_fault refl))
done_opened status.SinkFault held rows keeper kept sink given opened bad stored sound keeper_fault sink_fault keeps writes = absurd (writes (sink_fault refl))
done_opened (status.BadStore seq bad_row) held rows keeper kept sink given opened bad stored sound keeper_fault sink_fault keeps writes =
    let same : bad.rows ≡ rows = subst (λ held. IfSome held (λ kept. bad.rows ≡ kept)) stored bad.told in
    absurd (none_refused rows (row_fault seq bad_row) sound (ap checked (sym same) ∙ bad.refused))
done_opened _ held rows keeper kept sink given opened bad stored sound keeper_fault sink_fault keeps writes = absurd opened

-- ---- the causes

-- where there is none, nothing holds of it
pub none_that : {O : Type 0} (P : O → Type 0) (options : Option O) → options ≡ None → IsSomeAnd options P → ⊥
none_that P None wrong right = right
none_that P (Some given) wrong right = absurd cc

some_none : {O : Type 0} (options : Option O) → IsSome options → options ≡ None → ⊥
some_none {O = O} options right none = let is : IsSome {T = O} None = subst IsSome none right in absurd cc

module _ {K W B S O : Type 0} (tells : Tells K W B) (source : Reads S) (options : Option O) (asks_script has_lines : Type 0) (before now : S) (keeper : K)
    (sink : W) where
  -- the words are wrong: nothing was read, and keeper and sink are as they were
  pub usage-caused : options ≡ None → (asks_script → ⊥) → (has_lines → ⊥) → now ≡ before
      → IsCausedFor tells source options asks_script has_lines before now keeper keeper sink sink status.Usage
  usage-caused wrong no_script no_lines unread = record {
    usage = (λ is. wrong, λ none. refl);
    usage_reads_nothing = λ is. unread;
    usage_keeps = λ is. (refl, refl);
    source_fault = λ is. absurd cc;
    source_fault_keeps = λ is. (refl, refl);
    script_too_long = tt;
    script_too_long_keeps = λ limit is. (refl, refl);
    long_script = λ limit asks past no_fault. absurd (no_script asks);
    keeper_fault = λ is. absurd cc;
    sink_fault = λ is. absurd cc;
    bad_store = tt;
    unsound_store = λ rows seq bad_row lines held refused no_fault. absurd (no_lines lines);
    completes = λ rows lines held sound keeps writes. absurd (no_lines lines);
  }

  -- the script wasn't read: keeper and sink are as they were
  pub read-caused : (ended : Status) → IsSome options → IsReadStatus ended (source.faults before) (source.faults now) (source.left before)
      → (has_lines → ended ≡ status.Memory)
      → IsCausedFor tells source options asks_script has_lines before now keeper keeper sink sink ended
  read-caused ended right read memory =
      let earlier = source.faults before in
      let later = source.faults now in
      let left = source.left before in
      let read_as : ((why : Status) → ended ≡ why → IsReadStatus why earlier later left) = λ why is. subst (λ s. IsReadStatus s earlier later left) is read in
      record {
        usage = (λ is. absurd (read_as status.Usage is), λ none. absurd (some_none options right none));
        usage_reads_nothing = λ is. absurd (read_as status.Usage is);
        usage_keeps = λ is. absurd (read_as status.Usage is);
        source_fault = read_as status.SourceFault;
        source_fault_keeps = λ is. (refl, refl);
        script_too_long = limit_read ended earlier later left read;
        script_too_long_keeps = λ limit is. (refl, refl);
        long_script = λ limit asks past no_fault. long_read limit ended earlier later left read past no_fault;
        keeper_fault = λ is. absurd (read_as status.KeeperFault is);
        sink_fault = λ is. absurd (read_as status.SinkFault is);
        bad_store = store_read ended earlier later left _ read;
        unsound_store = λ rows seq bad_row lines held refused no_fault. inr (memory lines);
        completes = λ rows lines held sound keeps writes. inr (memory lines);
      }

  -- the script was read, and the store was to be opened
  pub opened-caused : (kept : K) (given : W) (ended : Status) → IsSome options
      → (asks_script → IfSome (source.left before) (λ all. first_limit all ≡ None))
      → IsCausedOnceRead tells (told_before (tells.store keeper).rows (tells.store kept).rows) keeper kept sink given ended
      → IsCausedFor tells source options asks_script has_lines before now keeper kept sink given ended
  opened-caused kept given ended right within causes =
      let opened_as : ((why : Status) → ended ≡ why → IsOpeningStatus why) = λ why is. subst IsOpeningStatus is causes.opened in
      record {
        usage = (λ is. absurd (opened_as status.Usage is), λ none. absurd (some_none options right none));
        usage_reads_nothing = λ is. absurd (opened_as status.Usage is);
        usage_keeps = λ is. absurd (opened_as status.Usage is);
        source_fault = λ is. absurd (opened_as status.SourceFault is);
        source_fault_keeps = λ is. absurd (opened_as status.SourceFault is);
        script_too_long = limit_opened ended (source.faults before) (source.faults now) (source.left before) causes.opened;
        script_too_long_keeps = λ limit is. absurd (opened_as (status.ScriptTooLong limit) is);
        long_script = λ limit asks past no_fault. absurd (past_within (source.left before) limit (within asks) past);
        keeper_fault = causes.keeper_fault;
        sink_fault = causes.sink_fault;
        bad_store = causes.bad_store;
        unsound_store = λ rows seq bad_row lines. causes.unsound rows seq bad_row;
        completes = λ rows lines held sound keeps writes.
            done_opened ended _ rows _ _ _ _ causes.opened causes.bad_store held sound causes.keeper_fault causes.sink_fault keeps writes;
      }

-- ---- where right words ask for a script

module _ {K W B S O : Type 0} (tells : Tells K W B) (source : Reads S) (options : Option O) (before now : S) (keeper : K) (sink : W) where
  abbrev HasScript : Type 0
  HasScript = HaveScript options (source.left before) (source.faults before) (source.faults now)

  pub caused-usage : options ≡ None → now ≡ before → IsCaused tells source options before now keeper keeper sink sink status.Usage
  caused-usage wrong unread =
      usage-caused tells source options (IsSome options) HasScript before now keeper sink wrong (λ right. some_none options right wrong)
      (λ script. some_none options script.right wrong) unread

  pub caused-read : (ended : Status) → IsSome options → IsReadStatus ended (source.faults before) (source.faults now) (source.left before)
      → IsCaused tells source options before now keeper keeper sink sink ended
  caused-read ended right read =
      read-caused tells source options (IsSome options) HasScript before now keeper sink ended right read
      (λ script. within_read ended (source.faults before) (source.faults now) (source.left before) script.within script.no_fault read)

  pub caused-opened : (kept : K) (given : W) (ended : Status) → IsSome options → IfSome (source.left before) (λ all. first_limit all ≡ None)
      → IsCausedOnceRead tells (told_before (tells.store keeper).rows (tells.store kept).rows) keeper kept sink given ended
      → IsCaused tells source options before now keeper kept sink given ended
  caused-opened kept given ended right within causes =
      opened-caused tells source options (IsSome options) HasScript before now keeper sink kept given ended right (λ asks. within) causes
